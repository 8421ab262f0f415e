-- The links of events that are made for them.
use Rattle.std.proofs.Common.{◌≡◌, ℕ, ◌==◌, ◌&&◌, ◌++◌, ◌∷◌, [], cond, not, Bool, true, false, List, refl, sym, ap, ◌∙◌}
use Rattle.std.proofs.Common.{append_assoc, append-nil}
use Rattle.std.specs.List.{AllByRecursion}
use Rattle.std.proofs.lemmas.Bool.{and_from}
use Rattle.flow_base.specs.declared.points.Point.{Point}
use Rattle.flow_graph.specs.declared.events.Event.{Event}
use Rattle.flow_graph.specs.declared.events.Event.TheVariants.{Pass, Link, FromSecret, Implicit, Out}
use Rattle.flow_graph.specs.declared.named_links.NamedEnd.{NamedEnd}
use Rattle.flow_graph.specs.declared.named_links.NamedEnd.TheVariants.{Source, At, Relay, Sink}
use Rattle.flow_graph.specs.declared.named_links.NamedLink.{NamedLink}
use Rattle.flow_graph.specs.EventGraphs.{has_passed, links_after, links_by, named_links, one_if, outlet_of}
use Rattle.flow_graph.specs.Keeping.{is_there}
use Rattle.acceptance_law.proofs.GraphEvents.{all_append, all_more, knows_more}
use Rattle.many_runs.specs.Private.Joining.{event_between, link_events}

-- ---- links that events make

-- whether an event makes a link from the one end to the other
is_made : NamedEnd → NamedEnd → Bool
is_made Source (At point) = true
is_made Source Source = false
is_made Source (Relay region) = false
is_made Source Sink = false
is_made (At point) (At target) = true
is_made (At point) (Relay region) = not (region == 0)
is_made (At point) Sink = true
is_made (At point) Source = false
is_made (Relay region) (At point) = not (region == 0)
is_made (Relay region) Source = false
is_made (Relay region) (Relay other) = false
is_made (Relay region) Sink = false
is_made Sink target = false

pub record IsMade (link : NamedLink) : Type 0 where
  made : is_made link.source link.target ≡ true

made_one : (b : Bool) (s t : NamedEnd) → is_made s t ≡ true → AllByRecursion IsMade (one_if b s t)
made_one true s t made = (record { made = made }, tt)
made_one false s t made = tt

made_outlet : (p : Point) (r : ℕ) → is_made (At p) (outlet_of r) ≡ true
unfolding is_made
made_outlet p r = by (r == 0) refl
  where
    by : (b : Bool) → (r == 0) ≡ b → is_made (At p) (cond b Sink (Relay r)) ≡ true
    by true e = refl
    by false e = ap not e

made_out : (h z : Bool) (r : ℕ) (p : Point) → (r == 0) ≡ z →
    AllByRecursion IsMade (one_if (h && not z) (Relay r) (At p))
unfolding is_made
made_out true true r p e = tt
made_out false true r p e = tt
made_out true false r p e = (record { made = ap not e }, tt)
made_out false false r p e = tt

made_by : (has : Point → Bool) (e : Event) → AllByRecursion IsMade (links_by has e)
unfolding is_made
made_by has (Pass p mask) = tt
made_by has (Link s t) = made_one (has s && has t) (At s) (At t) refl
made_by has (FromSecret p) = made_one (has p) Source (At p) refl
made_by has (Implicit p r) = made_one (has p) (At p) (outlet_of r) (made_outlet p r)
made_by has (Out r p) = made_out (has p) (r == 0) r p refl

made_after : (before events : List Event) → AllByRecursion IsMade (links_after before events)
made_after before [] = tt
made_after before (e ∷ events) =
    all_append IsMade (links_by (has_passed before) e) (links_after (before ++ e ∷ []) events)
    (made_by (has_passed before) e) (made_after (before ++ e ∷ []) events)

pub links_made : (events : List Event) → AllByRecursion IsMade (named_links events)
links_made events = made_after [] events

-- ---- the events that make links

-- the ends of the link are there after these events, and an event makes it
pub record Fits (before : List Event) (link : NamedLink) : Type 0 where
  pub source : is_there (has_passed before) link.source ≡ true
  pub target : is_there (has_passed before) link.target ≡ true
  pub made : IsMade link

there_more : (before more : List Event) (end : NamedEnd) → is_there (has_passed before) end ≡ true →
    is_there (has_passed (before ++ more)) end ≡ true
there_more before more Source there = refl
there_more before more (At p) there = knows_more before more p there
there_more before more (Relay r) there = refl
there_more before more Sink there = refl

fits_more : (before more : List Event) (link : NamedLink) → Fits before link → Fits (before ++ more) link
fits_more before more link fits = record {
  source = there_more before more link.source fits.source;
  target = there_more before more link.target fits.target;
  made = fits.made;
}

between : NamedEnd → NamedEnd → NamedLink
between source target = record { source = source; target = target }

one_there : (b : Bool) (s t : NamedEnd) (rest : List NamedLink) → b ≡ true → one_if b s t ++ rest ≡ between s t ∷ rest
unfolding between
one_there true s t rest there = refl
one_there false s t rest there = absurd (cc)

not_zero : (r : ℕ) → not (r == 0) ≡ true → (r == 0) ≡ false
not_zero r some = flip (r == 0) some
  where
    flip : (b : Bool) → not b ≡ true → b ≡ false
    flip true e = absurd (cc)
    flip false e = refl

links_between : (before : List Event) (s t : NamedEnd) (more : List Event) → is_there (has_passed before) s ≡ true →
    is_there (has_passed before) t ≡ true → is_made s t ≡ true →
    links_after before (event_between s t ++ more) ≡ between s t ∷ links_after (before ++ event_between s t) more
unfolding is_made
links_between before Source (At p) more source target made =
    one_there (has_passed before p) Source (At p) (links_after (before ++ FromSecret p ∷ []) more) target
links_between before Source Source more source target made = absurd (cc)
links_between before Source (Relay r) more source target made = absurd (cc)
links_between before Source Sink more source target made = absurd (cc)
links_between before (At p) (At q) more source target made =
    one_there (has_passed before p && has_passed before q) (At p) (At q)
    (links_after (before ++ Link p q ∷ []) more) (and_from (has_passed before p) (has_passed before q) source target)
links_between before (At p) (Relay r) more source target made =
    ap (λ b. one_if (has_passed before p) (At p) (cond b Sink (Relay r))
    ++ links_after (before ++ Implicit p r ∷ []) more) (not_zero r made)
    ∙ one_there (has_passed before p) (At p) (Relay r) (links_after (before ++ Implicit p r ∷ []) more) source
links_between before (At p) Sink more source target made =
    one_there (has_passed before p) (At p) Sink (links_after (before ++ Implicit p 0 ∷ []) more) source
links_between before (At p) Source more source target made = absurd (cc)
links_between before (Relay r) (At p) more source target made =
    one_there (has_passed before p && not (r == 0)) (Relay r) (At p) (links_after (before ++ Out r p ∷ []) more)
    (and_from (has_passed before p) (not (r == 0)) target made)
links_between before (Relay r) Source more source target made = absurd (cc)
links_between before (Relay r) (Relay s) more source target made = absurd (cc)
links_between before (Relay r) Sink more source target made = absurd (cc)
links_between before Sink t more source target made = absurd (cc)

-- events that are made for links make these links
pub links_again : (before : List Event) (links : List NamedLink) → AllByRecursion (Fits before) links →
    links_after before (link_events links) ≡ links
unfolding link_events between
links_again before [] fits = refl
links_again before (link ∷ links) fits =
    links_between before link.source link.target (link_events links) fits.0.source fits.0.target fits.0.made.made
    ∙ ap (λ rest. link ∷ rest)
    (links_again (before ++ event_between link.source link.target) links
    (all_more (Fits before) (Fits (before ++ event_between link.source link.target))
    (λ other fit. fits_more before (event_between link.source link.target) other fit) links fits.1))

-- ---- events that are passings alone

abbrev pub IsPassing : Event → Type 0
IsPassing (Pass p mask) = Unit {0}
IsPassing (Link s t) = ⊥
IsPassing (FromSecret p) = ⊥
IsPassing (Implicit p r) = ⊥
IsPassing (Out r p) = ⊥

-- they make no links
pub passing_links : (before events more : List Event) → AllByRecursion IsPassing events →
    links_after before (events ++ more) ≡ links_after (before ++ events) more
passing_links before [] more only = ap (λ b. links_after b more) (sym (append-nil before))
passing_links before (Pass p mask ∷ events) more only =
    passing_links (before ++ Pass p mask ∷ []) events more only.1
    ∙ ap (λ b. links_after b more) (append_assoc before (Pass p mask ∷ []) events)
passing_links before (Link s t ∷ events) more only = absurd only.0
passing_links before (FromSecret p ∷ events) more only = absurd only.0
passing_links before (Implicit p r ∷ events) more only = absurd only.0
passing_links before (Out r p ∷ events) more only = absurd only.0
