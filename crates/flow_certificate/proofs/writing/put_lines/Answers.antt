use Rattle.flow_certificate.specs.Pictures.{certificate_picture}
use Rattle.flow_certificate.proofs.Written.{written_text, written_valid}
use Rattle.flow_certificate.proofs.writing.put_lines.Goals as goal

pub returns : goal.returns
returns c =
    let t = c.args.certificate.now in
    record {
      valid = written_valid t;
      text = written_text (certificate_picture t.graph t.solved) c.put_line.new.text.items c.put_line-2.new.text.items
          c.put_points.new.text.items c.put_relays.new.text.items c.put_links.new.text.items
          c.put_line-3.new.text.items
          (rw c.requires at c.in_ok-put_line.ensures) c.in_ok-put_line-2.ensures
          (rw (c.as_slice.ensures, c.as_slice-2.ensures, c.as_slice-3.ensures) at c.in_ok-put_points.ensures)
          (rw (c.as_slice-4.ensures, c.as_slice-5.ensures) at c.in_ok-put_relays.ensures)
          (rw (c.as_slice-6.ensures, c.as_slice-7.ensures) at c.in_ok-put_links.ensures)
          c.in_ok-put_line-3.ensures;
    }
