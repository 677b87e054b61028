use Rattle.std.proofs.Common.{rules, refl, ◌∙◌}
use Rattle.std.proofs.lemmas.Result.{err_from_is_err_and, IfErr-at_err}
use Rattle.std.specs.Prelude.{◌≡◌, IsOkUnless}
use Rattle.cy_writer.specs.declared.error.WriteError.{WriteError}
use Rattle.cy_writer.specs.declared.error.WriteError.TheVariants as write_error
use Rattle.cy_writer.proofs.Stopping.{not_prepared, stands_same}
use Rattle.cy_writer.proofs.writing.Writing.prepared.Goals as goal

pub returns-in_err-map_err : goal.returns-in_err-map_err
returns-in_err-map_err c =
    let p = err_from_is_err_and c.from_residual.result c.from_residual.ensures.1 in
    let only : IsOkUnless c.from_residual.result write_error.Memory = search rules in
    not_prepared c.args.self.now _ c.from_residual.result _ p.1 (IfErr-at_err (λ (e : WriteError). e ≡ write_error.Memory) p.1 only) (λ given held. held) refl refl refl

pub returns-in_err-reserve : goal.returns-in_err-reserve
returns-in_err-reserve c =
    let p = err_from_is_err_and c.from_residual-in_err-reserve.result c.from_residual-in_err-reserve.ensures.1 in
    not_prepared c.args.self.now _ c.from_residual-in_err-reserve.result _ p.1 p.2
    (λ given held. stands_same c.args.self.now _ given held refl refl c.reserve.ensures.items refl held.chunk refl) refl refl refl

pub returns-in_err-body_position : goal.returns-in_err-body_position
returns-in_err-body_position c =
    let p = err_from_is_err_and c.from_residual-in_err-body_position.result c.from_residual-in_err-body_position.ensures.1 in
    not_prepared c.args.self.now _ c.from_residual-in_err-body_position.result _ p.1 (p.2 ∙ c.in_err-body_position.ensures.only_memory)
    (λ given held. stands_same c.args.self.now _ given held refl refl c.reserve.ensures.items refl (c.finish.ensures.same given.gathered held.chunk) refl) refl refl refl

pub returns-in_err-end : goal.returns-in_err-end
returns-in_err-end c =
    let p = err_from_is_err_and c.from_residual-in_err-end.result c.from_residual-in_err-end.ensures.1 in
    not_prepared c.args.self.now _ c.from_residual-in_err-end.result _ p.1 (p.2 ∙ c.in_err-end.ensures.only_memory)
    (λ given held. stands_same c.args.self.now _ given held refl refl c.reserve.ensures.items refl (c.finish.ensures.same given.gathered held.chunk) refl) refl refl refl

pub returns : goal.returns
returns c = record {
  same = λ given held. stands_same c.args.self.now _ given held refl refl c.reserve.ensures.items refl (c.finish.ensures.same given.gathered held.chunk) refl;
  header = λ given held. search rules;
  body = λ given held. c.finish.ensures.section given.gathered held.chunk;
  body_position = search rules;
  end = search rules;
  room = search rules;
  name = refl;
  place = refl;
  channels = refl;
  only_memory = search rules;
}
