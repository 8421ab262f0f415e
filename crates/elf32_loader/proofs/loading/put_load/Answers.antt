use Rattle.std.proofs.Common.{◌+◌, arith, subst, ap, List, sym}
use Rattle.std.proofs.lemmas.Result.{on_ok_weaker}
use Rattle.elf32_loader.specs.declared.headers.Header.{Header}
use Rattle.elf32_loader.specs.declared.segments.Segment.{Segment}
use Rattle.elf32_loader.specs.Programs.{IsLoaded}
use Rattle.elf32_loader.specs.Private.Searches.{AreLoads}
use Rattle.elf32_loader.proofs.Loads.{in_range, loads_put, loads_skip}
use Rattle.elf32_loader.proofs.loading.put_load.Goals as goal

pub returns-in_default : goal.returns-in_default
returns-in_default c = loads_skip c.args.file.now c.args.index c.args.segments.now.items c.requires.loads c.in_default.ensures

pub read_segment-requires-clause-in_file : goal.read_segment-requires-clause-in_file
read_segment-requires-clause-in_file c =
    let based = c.requires.based in
    let range = in_range c.args.file.now based.0 c.args.index c.requires.no_fault based.1 c.in-Some.ensures.0 in
    omega (arith, range.in_file, ap (λ (h : Header). h.offset + h.file_size) c.in-Some.ensures.1)

pub read_segment-requires-clause-in_memory : goal.read_segment-requires-clause-in_memory
read_segment-requires-clause-in_memory c =
    let based = c.requires.based in
    let range = in_range c.args.file.now based.0 c.args.index c.requires.no_fault based.1 c.in-Some.ensures.0 in
    let file_size = ap (λ (h : Header). h.file_size) c.in-Some.ensures.1 in
    let memory_size = ap (λ (h : Header). h.memory_size) c.in-Some.ensures.1 in
    omega (arith, range.in_memory, file_size, memory_size)

pub returns : goal.returns
returns c =
    let file = c.args.file.now in
    let segment = c.in_ok-segment.segment in
    let loaded = subst (λ (h : Header). IsLoaded file h segment) c.in-Some.ensures.1 c.in_ok-segment.ensures in
    on_ok_weaker c.insert_segment.result
    (λ put. subst (λ (xs : List Segment). AreLoads file (c.args.index + 1) xs) (sym put.2)
    (loads_put file c.args.index put.0 c.args.segments.now.items segment c.requires.no_fault c.requires.loads
    c.in-Some.ensures.0 loaded put.1))
    c.insert_segment.ensures
