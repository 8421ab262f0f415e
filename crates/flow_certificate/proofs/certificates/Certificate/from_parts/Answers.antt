use Rattle.std.proofs.Common.{sym, ◌∙◌}
use Rattle.std.proofs.lemmas.Bool.{and_parts}
use Rattle.flow_certificate.specs.Pictures.{have_counts as have_their_counts, have_names}
use Rattle.flow_certificate.proofs.NamedParts.{texts_from_names}
use Rattle.flow_certificate.proofs.certificates.Certificate.from_parts.Goals as goal
use Rattle.flow_certificate.proofs.certificates.Certificate.from_parts.Goals.{then-not-have_counts-via-then-not-have_counts, then-not-have_counts-via-else-not-have_counts+then-not-have_texts}

pub returns-then-not-have_counts-clause-named : goal.returns-then-not-have_counts-clause-named
returns-then-not-have_counts-clause-named c = λ known.
    let parts = and_parts (have_their_counts c.args.graph c.args.solved) (have_names c.args.graph c.args.solved) known in
    let texts = texts_from_names c.args.graph c.args.solved c.tell_graph.ensures.points c.tell_graph.ensures.relays
    parts.1 in
    elim c.then-not-have_counts.branch [
      | then-not-have_counts-via-then-not-have_counts w ↦ sym w.if-not-have_counts.true ∙ (c.have_counts.ensures ∙ parts.0)
      | then-not-have_counts-via-else-not-have_counts+then-not-have_texts w ↦ sym w.if-not-have_texts.true ∙ (w.have_texts.ensures ∙ texts)
    ]
