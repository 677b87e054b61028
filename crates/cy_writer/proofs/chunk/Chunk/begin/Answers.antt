use Rattle.std.proofs.Common.{rules, ◌≡◌, ◌++◌, refl, ap, ◌∙◌, drop}
use Rattle.cy_section.specs.declared.types.SectionKind.TheVariants as kind
use Rattle.cy_section.specs.Section.{head_bytes}
use Rattle.std.proofs.lemmas.Result.{IfOk-from_err}
use Rattle.cy_writer.proofs.Chunks.{still_first, begun, begun_first, head_alone, head_whole}
use Rattle.cy_writer.proofs.chunk.Chunk.begin.Goals as goal

pub returns-then-not-is_empty : goal.returns-then-not-is_empty
returns-then-not-is_empty c = record {
  same = λ messages held. held;
  first = λ messages m held time. still_first c.args.self.now messages m held (λ none. search rules);
  room = search rules;
  header = refl;
  only_memory = search rules;
}

pub returns-in_err-map_err : goal.returns-in_err-map_err
returns-in_err-map_err c =
    let none : c.args.self.now.header.message_number ≡ 0 = search rules in
    let put : c.put_head.new.to ≡ c.clear.new.self = search rules in
    record {
      same = λ messages held. begun c.args.self.now _ messages held none refl (ap (drop 16) (put ∙ c.clear.ensures));
      first = λ messages m held time. IfOk-from_err c.from_residual.result _ c.from_residual.ensures.0;
      room = IfOk-from_err c.from_residual.result _ c.from_residual.ensures.0;
      header = refl;
      only_memory = search rules;
    }

pub returns : goal.returns
returns c =
    let none : c.args.self.now.header.message_number ≡ 0 = search rules in
    let put : c.put_head.new.to ≡ c.clear.new.self ++ head_bytes kind.ChunkBody 0 = search rules in
    record {
      same = λ messages held. begun c.args.self.now _ messages held none refl (head_alone kind.ChunkBody c.clear.new.self c.put_head.new.to c.clear.ensures put);
      first = λ messages m held time. begun_first c.args.self.now c.args.time messages m held none time;
      room = head_whole kind.ChunkBody c.clear.new.self c.put_head.new.to c.clear.ensures put;
      header = refl;
      only_memory = tt;
    }
