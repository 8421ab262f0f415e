use Rattle.std.proofs.Common.{◌≡◌, ℕ, ◌≤◌, suc, List, [], ◌∷◌, length, take, subst, arith}
use Rattle.std.specs.Prelude.{All, IfSome, slice_get}
use Rattle.std.proofs.lemmas.List.Elements.{All-more}
use Rattle.elf32_loader.specs.declared.segments.Segment.{Segment}
use Rattle.elf32_loader.proofs.loading.place_of.Goals as goal

-- nothing stands past the end
past : (segments : List Segment) (P : Segment → Type 0) → IfSome (slice_get segments (length segments)) P
past [] P = _
past (first ∷ rest) P = past rest P

pub loop-place-preserved : goal.loop-place-preserved
loop-place-preserved c =
    let address = c.args.address in
    let segment = c.index-segments-place.result in
    let below : segment.address ≤ address = c.if-address-segment.false in
    All-more (λ s. s.address ≤ address) c.args.segments.now c.loop-place.place segment c.loop-place-test.true
    c.loop-place.invariant
    (subst (λ (s : Segment). s.address ≤ address) c.index-segments-place.is below)

pub returns : goal.returns
returns c =
    let segments = c.args.segments.now in
    let address = c.args.address in
    let whole : c.loop-place.place ≡ length segments = omega arith in
    record {
      within = omega arith;
      before = subst (λ (n : ℕ). All (λ (s : Segment). s.address ≤ address) (take n segments)) whole c.loop-place.invariant;
      after = past segments (λ s. suc address ≤ s.address);
    }
