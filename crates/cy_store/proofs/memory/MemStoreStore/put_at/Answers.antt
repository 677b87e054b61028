use Rattle.std.proofs.Common.{◌≡◌, ◌≤◌, ◌∙◌, ap, arith, rules, length, take}
use Rattle.std.proofs.lemmas.List.{length-take}
use Rattle.std.proofs.lemmas.Grind.{common_steps}
use Rattle.cy_store.specs.Memory.{Memory, files_of, put_over}
use Rattle.cy_store.proofs.Torn.{put_over-leaves}
use Rattle.cy_store.proofs.memory.MemStoreStore.put_at.Goals as goal

pub returns-in-Some-clause-answer : goal.returns-in-Some-clause-answer
returns-in-Some-clause-answer c =
    let files = λ (m : Memory). m.files in
    let piece = take c.min-kept.result c.args.bytes.now in
    let short : length piece ≤ length c.args.bytes.now = omega (arith, length-take c.min-kept.result c.args.bytes.now) in
    let was : files_of c.self.inside.files.entries ≡ c.args.self.now.files = ap files c.self.view_is ∙ ap files c.begin_put.ensures.counted in
    let is : c.fault.new.self.files ≡ put_over c.args.name.now c.args.at piece c.args.self.now.files =
    ap files c.fault.ensures.counted ∙ c.in_ok-put.ensures.put ∙ ap (put_over c.args.name.now c.args.at piece) was in
    record {
      there = search rules;
      put = search rules;
      torn = λ _. put_over-leaves _ _ c.args.name.now c.args.at piece c.args.bytes.now c.requires short is;
      memory = grind (arith, common_steps);
      cause = grind (arith, common_steps);
    }
