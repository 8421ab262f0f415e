use Rattle.flow_certificate.proofs.writing.write_certificate.Goals as goal

pub returns : goal.returns
returns c = rw c.from_vec.ensures c.in_ok-put_lines.ensures
