use Rattle.std.proofs.Common.{◌≡◌, ◌∙◌, ◌++◌, ap, codes, string_bytes, rules}
use Rattle.std.proofs.lemmas.Str.{IsUtf8-string_bytes}
use Rattle.serde_json.specs.View.{view}
use Rattle.serde_json.specs.Written.{compact_text, has_float}
use Rattle.enclosure_regions.specs.Reading.{ReadsAs, Spells}
use Rattle.region_learn.specs.RegionTexts.{regions_data}
use Rattle.region_learn.proofs.Floats.{all_whole}
use Rattle.region_learn.proofs.ReadBack.{regions_read_back}
use Rattle.region_learn.proofs.WrittenData.{written_reads}
use Rattle.region_learn.proofs.writing.write_regions.Goals as goal

pub returns-clause-text : goal.returns-clause-text
returns-clause-text c =
    let same : view c.in_ok-value.value ≡ regions_data c.args.regions.now.items =
    c.in_ok-value.ensures ∙ ap regions_data c.as_slice.ensures in
    let text : string_bytes c.in_ok-compact.compact ≡ compact_text (regions_data c.args.regions.now.items) =
    c.in_ok-compact.ensures.text (ap has_float same ∙ all_whole c.args.regions.now.items) ∙ ap compact_text same in
    search (rules, text)

pub returns-clause-reads : goal.returns-clause-reads
returns-clause-reads c =
    let same : view c.in_ok-value.value ≡ regions_data c.args.regions.now.items =
    c.in_ok-value.ensures ∙ ap regions_data c.as_slice.ensures in
    let written = c.in_ok-compact.ensures in
    let reads : ReadsAs (string_bytes c.in_ok-compact.compact ++ codes "\n") (regions_data c.args.regions.now.items) =
    written_reads (string_bytes c.in_ok-compact.compact) (view c.in_ok-value.value) c.args.regions.now.items same
    (IsUtf8-string_bytes c.in_ok-compact.compact) written.compact written.order written.reads_back in
    let spells : Spells (string_bytes c.in_ok-compact.compact ++ codes "\n") c.args.regions.now.items =
    (regions_data c.args.regions.now.items, reads, regions_read_back c.args.regions.now.items c.args.regions.now.keeps_rules) in
    search (rules, spells)
