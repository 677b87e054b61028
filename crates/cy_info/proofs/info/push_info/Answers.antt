use Rattle.std.proofs.Common.{◌++◌, ℕ, List, ap, ◌∙◌}
use Rattle.cy_section.specs.declared.types.Header.{Header}
use Rattle.cy_reader.specs.declared.known.Known.{Known}
use Rattle.cy_info.specs.Info.{file_line, front_lines, header_differences, numbered}
use Rattle.cy_info.specs.private.Facts.{counted_line}
use Rattle.cy_info.proofs.Telling.{info-told}
use Rattle.cy_info.proofs.info.push_info.Goals as goal

pub returns : goal.returns
returns c =
    let whole = c.args.whole.now in
    let facts = c.args.facts.now in
    let o = c.args.to.now.items in
    let a = c.push_file.new.to.items in
    let d = c.push_index.new.to.items in
    let e = c.push_channels.new.to.items in
    let file = c.in_ok-push_file.ensures ∙ ap (λ (n : List ℕ). o ++ file_line n c.size.result) c.name.ensures ∙ ap (λ (n : ℕ). o ++ file_line whole.source.name n) c.size.ensures.size in
    let front = c.in_ok-push_front.ensures ∙ ap (λ (h : Header). a ++ front_lines h facts.counted) c.header.ensures in
    let channels = c.in_ok-push_channels.ensures ∙ ap (λ (counts : List ℕ). d ++ numbered (counted_line counts) 0 c.known.result.now) c.as_slice.ensures.value
    ∙ ap (λ (ks : List Known). d ++ numbered (counted_line facts.counts.items) 0 ks) c.known.ensures in
    let header = c.in_ok-push_header_differences.ensures ∙ ap (λ (h : Header). e ++ header_differences h facts.counted) c.header-2.ensures in
    info-told c.push_index_differences.result whole facts o a c.push_front.new.to.items d e c.push_header_differences.new.to.items c.push_index_differences.new.to.items c.requires
    file front c.in_ok-push_index.ensures channels header c.push_index_differences.ensures
