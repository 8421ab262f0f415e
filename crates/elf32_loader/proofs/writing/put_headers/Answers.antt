use Rattle.std.proofs.Common.{◌≡◌, ◌+◌, ◌++◌, ◌∙◌, List, length, ap, arith, drop, ℕ}
use Rattle.elf32_loader.specs.Writing.{program_header, program_headers}
use Rattle.elf32_loader.proofs.Putting.{contents_more, headers_more}
use Rattle.elf32_loader.proofs.writing.put_headers.Goals as goal

pub loop-segment-preserved : goal.loop-segment-preserved
loop-segment-preserved c =
    let segment = c.segment-item.result in
    let segments = c.args.segments.now in
    let file = c.loop-segment.file.items in
    let longer = c.extend_from_slice.new.self.items in
    let index = c.loop-segment.segment-index in
    let place = c.loop-segment.place in
    let size : c.len-size.result ≡ length segment.bytes = c.len-size.ensures in
    let put = λ (n : ℕ) (same : c.len-size.result ≡ n).
    c.in_ok-extend_from_slice.ensures.items
    ∙ ap (λ (xs : List ℕ). file ++ xs) (c.segment_header.ensures ∙ ap (program_header place segment.address) same) in
    let more = contents_more index segments segment c.loop-segment-test.true c.segment-item.is in
    let next =
    headers_more file longer place index segments segment c.loop-segment-test.true c.segment-item.is (put _ size) in
    record {
      built =
          ap (λ (n : ℕ). longer ++ program_headers (place + n) (drop (index + 1) segments)) size
          ∙ next
          ∙ c.loop-segment.invariant.built;
      fits = omega (arith, more);
    }
