use Rattle.std.proofs.Common.{rules, ◌≡◌, ℕ, false, List, [], None, ap, sym, ◌∙◌, subst}
use Rattle.cy_store.specs.Store.{StoreView}
use Rattle.cy_store.specs.Write.{Create, after_write}
use Rattle.cy_recording.specs.Recording.{source_of, channels_of_tape, chunks_of_tape}
use Rattle.cy_recording.specs.Compare.{record_of_tape}
use Rattle.cy_recording.specs.private.Keeping.{IsKept, IsSeen}
use Rattle.cy_recording.proofs.Keeps.{kept_start}
use Rattle.cy_recording.proofs.Seen.{seen_none}
use Rattle.cy_recording.proofs.Ends.{wrote_text, ends}
use Rattle.cy_recording.proofs.same.compared_with.Goals as goal

pub invariant_of-compared : goal.invariant_of-compared
invariant_of-compared g c =
    let name = g.K.Known.name in
    let start = g.K.Known.start in
    let is : c.then.result.files ≡ after_write (Create name) c.none.result.files = c.then.ensures ∙ ap (λ (n : List ℕ). after_write (Create n) c.none.result.files) (sym c.requires.named) in
    let none : [] ≡ c.new.result.items = search rules in
    record {
      lender = sym c.requires.lender;
      named = sym c.requires.named;
      kept = subst (λ (v : StoreView). IsKept name start v false) c.requires.start (kept_start name start);
      seen = subst (λ (l : List ℕ). IsSeen name start.files c.then.result.files l 0 None) none (seen_none name start.files c.none.result.files c.then.result.files is);
    }

pub returns-clause-answer : goal.returns-clause-answer
returns-clause-answer g c =
    let name = g.K.Known.name in
    let start = g.K.Known.start in
    let s = source_of c.args.played.now in
    let tape = c.args.tape.now in
    let put = c.write_record-written.new.store in
    let named = sym c.requires.named in
    ends name (record_of_tape name s tape) start (g.S.Store.shows put.store.now) (g.S.Store.shows c.judge-answer.new.store) _ c.write_record-written.result c.judge-answer.result
    put.shown.files c.then.result.files put.kept named
    (subst (λ (l : List ℕ). IsSeen name start.files put.shown.files l put.size put.place) (sym c.deref.ensures.value) put.seen)
    c.requires.size
    (wrote_text c.write_record-written.result c.args.lent.name.now name (channels_of_tape s tape) (λ n. chunks_of_tape n s tape) put.shown.files c.then.result.files named
    c.write_record-written.ensures.makes.done)
    c.judge-answer.ensures
