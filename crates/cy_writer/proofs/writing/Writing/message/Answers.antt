use Rattle.std.proofs.Common.{rules, ◌≡◌, ◌∙◌, true, false, refl, inl, inr, slice_get, Some}
use Rattle.cy_section.specs.declared.types.Channel.{Channel}
use Rattle.cy_section.specs.Chunks.{takes}
use Rattle.cy_writer.specs.declared.error.WriteError.TheVariants as write_error
use Rattle.cy_writer.specs.Given.{Given, message_on, with_chunk, chunk_puts}
use Rattle.cy_writer.specs.Stands.{StandsFor}
use Rattle.cy_writer.specs.Writes.{puts_into}
use Rattle.cy_writer.proofs.Puts.{always, makes_same, makes_done, makes_nothing, err_part, causes_none, causes_same}
use Rattle.cy_writer.proofs.Standing.{named_takes}
use Rattle.cy_writer.proofs.Left.{left_chunk, left_more}
use Rattle.cy_writer.proofs.writing.Writing.message.Goals as goal

pub returns-then-takes-clause-takes : goal.returns-then-takes-clause-takes
returns-then-takes-clause-takes g c =
    let old = g.S.Store.shows c.args.store.now in
    let Taken : Given → Channel → Type 0 = λ given channel. takes given.gathered (message_on channel c.args.time c.args.content.now) ≡ true in
    let taken : (given : Given) (channel : Channel) → StandsFor c.args.self.now given → slice_get given.channels c.args.channel ≡ Some channel → Taken given channel =
    λ given channel held here. named_takes c.args.self.now given c.args.channel channel c.index.result.now c.as_str-name.result.now c.args.time c.args.content.now c.takes.result held here
    c.index.ensures c.as_str-name.ensures.value (c.takes.ensures.takes given.gathered held.chunk) ∙ c.if-takes.true in
    record {
      given = λ given channel held here. c.gather.ensures.given given channel held here (taken given channel held here);
      memory = λ given held e. inl (record { given = err_part c.gather.result write_error.Memory (c.gather.ensures.same given held) e; left = λ left. left });
      makes = λ given channel held here. rw (taken given channel held here) (makes_nothing c.gather.result old (λ e. search rules) (λ e. search rules));
      left = λ given channel held here left.
          rw (taken given channel held here) (always c.gather.result (left_more given (message_on channel c.args.time c.args.content.now) old.files left));
      causes = causes_none old (λ e. search rules);
    }

pub returns-in_err-put_chunk-clause-takes : goal.returns-in_err-put_chunk-clause-takes
returns-in_err-put_chunk-clause-takes g c =
    let old = g.S.Store.shows c.args.store.now in
    let new = g.S.Store.shows c.put_chunk.new.store in
    record {
      given = λ given channel held here. search rules;
      memory = λ given held e. inl (c.put_chunk.ensures.starved given held (search rules));
      makes = λ given channel held here.
          let full : takes given.gathered (message_on channel c.args.time c.args.content.now) ≡ false = named_takes c.args.self.now given c.args.channel channel c.index.result.now c.as_str-name.result.now c.args.time c.args.content.now c.takes.result held here
          c.index.ensures c.as_str-name.ensures.value (c.takes.ensures.takes given.gathered held.chunk) ∙ c.if-takes.false in
          rw full
          (makes_same c.put_chunk.result c.from_residual.result (puts_into given.name (chunk_puts given)) old new (c.put_chunk.ensures.makes given held) (search rules) (λ e h. search rules));
      left = λ given channel held here left. search rules;
      causes = causes_same old new c.put_chunk.ensures.causes (λ e. search rules) (λ e. search rules);
    }

pub returns-clause-takes : goal.returns-clause-takes
returns-clause-takes g c =
    let old = g.S.Store.shows c.args.store.now in
    let new = g.S.Store.shows c.put_chunk.new.store in
    let Full : Given → Channel → Type 0 = λ given channel. takes given.gathered (message_on channel c.args.time c.args.content.now) ≡ false in
    let full : (given : Given) (channel : Channel) → StandsFor c.args.self.now given → slice_get given.channels c.args.channel ≡ Some channel → Full given channel =
    λ given channel held here. named_takes c.args.self.now given c.args.channel channel c.index.result.now c.as_str-name.result.now c.args.time c.args.content.now c.takes.result held here
    c.index.ensures c.as_str-name.ensures.value (c.takes.ensures.takes given.gathered held.chunk) ∙ c.if-takes.false in
    record {
      given = λ given channel held here.
          rw (full given channel held here) (c.gather-2.ensures.given (with_chunk given) channel (c.in_ok-put_chunk.ensures.given given held) here refl);
      memory = λ given held e. inr (record {
        given = err_part c.gather-2.result write_error.Memory (c.gather-2.ensures.same (with_chunk given) (c.in_ok-put_chunk.ensures.given given held)) e;
        left = λ left. left_chunk given old.files new.files (c.in_ok-put_chunk.ensures.makes given held).done left;
      });
      makes = λ given channel held here.
          rw (full given channel held here)
          (makes_done c.gather-2.result (puts_into given.name (chunk_puts given)) old new (c.in_ok-put_chunk.ensures.makes given held).done (λ e. search rules) (λ e. search rules));
      left = λ given channel held here left.
          rw (full given channel held here)
          (always c.gather-2.result
          (left_more (with_chunk given) (message_on channel c.args.time c.args.content.now) new.files
          (left_chunk given old.files new.files (c.in_ok-put_chunk.ensures.makes given held).done left)));
      causes = causes_same old new c.put_chunk.ensures.causes (λ e. search rules) (λ e. search rules);
    }
