use Rattle.std.proofs.Common.{rules, IsOkUnless, ◌≡◌, ◌+◌, ◌++◌, ◌∷◌, [], List, ℕ, refl, ap, subst, slice_set, get_or, ◌∙◌}
use Rattle.std.proofs.lemmas.Result.{err_from_is_err_and, IfErr-at_err}
use Rattle.std.proofs.lemmas.List.{length-set}
use Rattle.cy_writer.specs.declared.error.WriteError.{WriteError}
use Rattle.cy_writer.specs.declared.error.WriteError.TheVariants as write_error
use Rattle.cy_writer.specs.Given.{message_on, messages_of}
use Rattle.cy_writer.specs.Kept.{IsChunkOf}
use Rattle.cy_writer.specs.declared.kept.KeptChannel.{KeptChannel}
use Rattle.cy_writer.proofs.Standing.{stands_message, name_at, one_more}
use Rattle.cy_writer.proofs.Stopping.{not_gathered, stands_same, written_back}
use Rattle.cy_writer.proofs.writing.Writing.gather.Goals as goal

pub returns : goal.returns
returns c = record {
  given = λ given channel held here taken.
      let items = c.args.self.now.channels.items in
      let kept : KeptChannel = c.index_mut-kept.result.now in
      let is : kept ≡ get_or items c.args.channel kept = c.index_mut-kept.ensures.value in
      let number : c.in_ok-number.number ≡ kept.cache.message_number + 1 = search rules in
      let named : c.as_str.result.now ≡ channel.name =
      c.as_str.ensures.value
      ∙ ap (λ (k : KeptChannel). k.cache.name) is
      ∙ ap (λ (ks : List KeptChannel). (get_or ks c.args.channel kept).cache.name) held.channels
      ∙ name_at 2064 (messages_of given) given.channels c.args.channel channel kept here in
      let Taken : List ℕ → Type 0 = λ name. IsChunkOf c.add.new.self (given.gathered ++ record { channel_name = name; time = c.args.time; content = c.args.content.now } ∷ []) in
      let WithCount : ℕ → List KeptChannel = λ n. slice_set items c.args.channel record { position = kept.position; cache = record kept.cache { message_number = n } } in
      stands_message c.args.self.now _ given (message_on channel c.args.time c.args.content.now) c.args.channel channel kept held here refl taken
      refl
      (ap WithCount number ∙ ap (λ (k : KeptChannel). slice_set items c.args.channel (one_more k)) is)
      refl refl
      (subst Taken named (c.in_ok-add.ensures.added given.gathered held.chunk))
      c.in_ok-all.ensures.counted;
  same = λ given held. search rules;
  place = search rules;
  name = search rules;
  channels = search rules;
  only_memory = search rules;
}

pub returns-in_err-all : goal.returns-in_err-all
returns-in_err-all c =
    let p = err_from_is_err_and c.from_residual.result c.from_residual.ensures.1 in
    not_gathered c.args.self.now _ c.args.channel c.args.time c.args.content.now c.from_residual.result _ p.1 (p.2 ∙ c.in_err-all.ensures.only_memory) (λ given held. held) refl refl refl

pub returns-in_err-number : goal.returns-in_err-number
returns-in_err-number c =
    let items = c.args.self.now.channels.items in
    let kept : KeptChannel = c.index_mut-kept.result.now in
    let p = err_from_is_err_and c.from_residual-in_err-number.result c.from_residual-in_err-number.ensures.1 in
    let only : IsOkUnless c.from_residual-in_err-number.result write_error.Memory = search rules in
    not_gathered c.args.self.now _ c.args.channel c.args.time c.args.content.now c.from_residual-in_err-number.result _ p.1 (IfErr-at_err (λ (e : WriteError). e ≡ write_error.Memory) p.1 only)
    (λ given held. stands_same c.args.self.now _ given held refl (written_back items c.args.channel kept c.index_mut-kept.ensures.value) refl refl held.chunk refl)
    refl refl (length-set items c.args.channel kept)

pub returns-in_err-add : goal.returns-in_err-add
returns-in_err-add c =
    let items = c.args.self.now.channels.items in
    let kept : KeptChannel = c.index_mut-kept.result.now in
    let p = err_from_is_err_and c.from_residual-in_err-add.result c.from_residual-in_err-add.ensures.1 in
    not_gathered c.args.self.now _ c.args.channel c.args.time c.args.content.now c.from_residual-in_err-add.result _ p.1 (p.2 ∙ c.in_err-add.ensures.only_memory)
    (λ given held. stands_same c.args.self.now _ given held refl (written_back items c.args.channel kept c.index_mut-kept.ensures.value) refl refl (c.in_err-add.ensures.same given.gathered held.chunk) refl)
    refl refl (length-set items c.args.channel kept)
