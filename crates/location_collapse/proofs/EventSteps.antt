-- What a collapse stands for with one event more.
use Rattle.std.proofs.Common.{◌≡◌, ℕ, ◌==◌, ◌&&◌, ◌++◌, ◌∷◌, [], cond, not, Bool, true, false, List, refl, sym}
use Rattle.std.proofs.Common.{ap, ◌∙◌, subst}
use Rattle.std.proofs.lemmas.Bool.{eq-eqb}
use Rattle.flow_base.specs.declared.points.Point.{Point}
use Rattle.flow_graph.specs.declared.events.Event.{Event}
use Rattle.flow_graph.specs.declared.events.Event.TheVariants.{Pass, Link, FromSecret, Implicit, Out}
use Rattle.flow_graph.specs.declared.named_links.NamedLink.{NamedLink}
use Rattle.flow_graph.specs.declared.named_links.NamedEnd.{NamedEnd}
use Rattle.flow_graph.specs.declared.named_links.NamedEnd.TheVariants.{Source, At, Relay, Sink}
use Rattle.flow_graph.specs.Events.{again_events}
use Rattle.flow_graph.specs.EventGraphs.{is_among, links_by, one_if, outlet_of}
use Rattle.flow_graph.specs.Keeping.{Keeps, TakesLinks, is_known, is_there}
use Rattle.flow_graph.proofs.Again.{again_in_turn}
use Rattle.flow_graph.proofs.KeptAfterEvent.{keeps_links}
use Rattle.location_collapse.specs.Collapses.{MakesLink, has_ends}
use Rattle.location_collapse.specs.KeptLinks.{has_flow, has_output}
use Rattle.location_collapse.proofs.LinkMarks.{known_takes, no_link}

pub known_link : (capacities : List (Point × ℕ)) (links : List NamedLink) (e : Event) (link : NamedLink)
    (events : List Event) → MakesLink (is_known capacities) e link → is_among links link ≡ true →
    Keeps capacities links events → Keeps capacities links (events ++ e ∷ [])
known_link capacities links e link events makes known keeps =
    keeps_links capacities links links e events keeps
    (subst (TakesLinks links links) (sym makes.made) (known_takes (has_ends (is_known capacities) link) links link known))
    makes.no_bits

pub missing_end : (capacities : List (Point × ℕ)) (links : List NamedLink) (e : Event) (link : NamedLink)
    (events : List Event) → MakesLink (is_known capacities) e link → has_ends (is_known capacities) link ≡ false →
    Keeps capacities links events → Keeps capacities links (events ++ e ∷ [])
missing_end capacities links e link events makes missing keeps =
    keeps_links capacities links links e events keeps
    (subst (TakesLinks links links) (sym (makes.made ∙ ap (λ b. cond b (link ∷ []) []) missing)) (no_link links))
    makes.no_bits

pub new_link : (capacities : List (Point × ℕ)) (old new : List NamedLink) (e : Event) (link : NamedLink)
    (events : List Event) → MakesLink (is_known capacities) e link → has_ends (is_known capacities) link ≡ true →
    TakesLinks old new (link ∷ []) → Keeps capacities old events → Keeps capacities new (events ++ e ∷ [])
new_link capacities old new e link events makes there takes keeps =
    keeps_links capacities old new e events keeps
    (subst (TakesLinks old new) (sym (makes.made ∙ ap (λ b. cond b (link ∷ []) []) there)) takes)
    makes.no_bits

pub made_alone : (has : Point → Bool) (e : Event) (link : NamedLink) → MakesLink has e link → has_ends has link ≡ true →
    links_by has e ≡ link ∷ []
made_alone has e link makes there = makes.made ∙ ap (λ b. cond b (link ∷ []) []) there

pub no_output : (capacities : List (Point × ℕ)) (links : List NamedLink) (r : ℕ) (p : Point) (events : List Event) →
    r ≡ 0 → Keeps capacities links events → Keeps capacities links (events ++ Out r p ∷ [])
no_output capacities links r p events zero keeps =
    keeps_links capacities links links (Out r p) events keeps
    (subst (TakesLinks links links)
    (sym (ap (λ b. one_if (is_known capacities p && not b) (Relay r) (At p)) (eq-eqb r 0 zero) ∙
    ap (λ b. one_if b (Relay r) (At p)) (and_false (is_known capacities p)))) (no_link links)) (λ q. refl)
  where
    and_false : (b : Bool) → (b && false) ≡ false
    and_false true = refl
    and_false false = refl

and_true : (b : Bool) → (b && true) ≡ b
and_true true = refl
and_true false = refl

pub makes_link : (has : Point → Bool) (s t : Point) → MakesLink has (Link s t) (record { source = At s; target = At t })
makes_link has s t = record { made = refl; no_bits = λ q. refl }

pub makes_secret : (has : Point → Bool) (p : Point) → MakesLink has (FromSecret p) (record {
  source = Source;
  target =
      At p;
})
makes_secret has p = record { made = refl; no_bits = λ q. refl }

outlet_there : (has : Point → Bool) (r : ℕ) → is_there has (outlet_of r) ≡ true
outlet_there has r = by (r == 0)
  where
    by : (b : Bool) → is_there has (cond b Sink (Relay r)) ≡ true
    by true = refl
    by false = refl

pub makes_implicit : (has : Point → Bool) (p : Point) (r : ℕ) (end : NamedEnd) → end ≡ outlet_of r →
    MakesLink has (Implicit p r) (record { source = At p; target = end })
makes_implicit has p r end is =
    subst (λ x. MakesLink has (Implicit p r) (record { source = At p; target = x })) (sym is)
    (record {
      made = ap (λ b. one_if b (At p) (outlet_of r)) (sym (and_true (has p)) ∙ ap (λ b. has p && b)
          (sym (outlet_there has r)));
      no_bits = λ q. refl;
    })

pub makes_output : (has : Point → Bool) (r : ℕ) (p : Point) → (r == 0) ≡ false →
    MakesLink has (Out r p) (record { source = Relay r; target = At p })
makes_output has r p some = record {
  made = ap (λ b. one_if (has p && not b) (Relay r) (At p)) some ∙ ap (λ b. one_if b (Relay r) (At p)) (and_true (has p));
  no_bits = λ q. refl;
}

-- an output that gives out again what it gave before, where its links have occurred
pub taken_again : (capacities : List (Point × ℕ)) (links : List NamedLink) (p : Point) (mask : ℕ) (events : List Event) →
    (p.region == 0) ≡ false → has_flow links p p ≡ true → has_output links p.region p ≡ true →
    Keeps capacities links (events ++ Pass p mask ∷ []) → Keeps capacities links (events ++ again_events p mask)
taken_again capacities links p mask events some flow output keeps =
    let second : Keeps capacities links ((events ++ Pass p mask ∷ []) ++ Link p p ∷ []) =
    known_link capacities links (Link p p) (record { source = At p; target = At p }) (events ++ Pass p mask ∷ [])
    (makes_link (is_known capacities) p p) flow keeps in
    let third : Keeps capacities links (((events ++ Pass p mask ∷ []) ++ Link p p ∷ []) ++ Out p.region p ∷ []) =
    known_link capacities links (Out p.region p) (record { source = Relay p.region; target = At p })
    ((events ++ Pass p mask ∷ []) ++ Link p p ∷ []) (makes_output (is_known capacities) p.region p some) output second in
    subst (Keeps capacities links) (again_in_turn events p mask) third
