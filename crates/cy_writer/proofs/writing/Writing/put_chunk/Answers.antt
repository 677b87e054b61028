use Rattle.std.proofs.Common.{rules, ◌≡◌, ◌∷◌, ◌⊎◌, [], List, ℕ, length, subst, arith}
use Rattle.std.specs.Option.{option_map}
use Rattle.cy_store.specs.Write.{Put, after_writes}
use Rattle.cy_writer.specs.Given.{front_of}
use Rattle.cy_writer.proofs.Chunks.{some_first}
use Rattle.cy_writer.proofs.Puts.{causes_same}
use Rattle.cy_writer.proofs.Left.{left_starved}
use Rattle.cy_writer.proofs.writing.Writing.put_chunk.Goals as goal

pub returns-in_err-put_sections : goal.returns-in_err-put_sections
returns-in_err-put_sections g c = record {
  given = λ given held. search rules;
  same = λ given held. search rules;
  makes = λ given held. search rules;
  starved = λ given held e.
      let old = g.S.Store.shows c.args.store.now in
      let new = g.S.Store.shows c.put_sections.new.store in
      let there = c.prepared.ensures.same given held in
      let some = some_first c.args.self.now.chunk given.gathered held.chunk (λ e. omega (arith, e, c.requires.some)) in
      let Put_so : List ℕ → ℕ → List ℕ → Type 0 = λ name at header.
      (new.files ≡ old.files) ⊎ (new.files ≡ option_map (after_writes (Put name at header ∷ [])) old.files) in
      let half = c.put_sections.ensures.puts.memory (search rules) in
      let named : Put_so given.name c.prepared.new.self.place c.in_ok-prepared.prepared.header =
      subst (λ (name : List ℕ). Put_so name c.prepared.new.self.place c.in_ok-prepared.prepared.header) there.name half in
      let placed : Put_so given.name (length (front_of given)) c.in_ok-prepared.prepared.header =
      subst (λ (at : ℕ). Put_so given.name at c.in_ok-prepared.prepared.header) there.place named in
      record {
        given = there;
        left = λ left. left_starved given some.0 some.1.0 old.files new.files some.1.1
            (subst (λ (header : List ℕ). Put_so given.name (length (front_of given)) header) (c.in_ok-prepared.ensures.header given held) placed) left;
      };
  held = λ unfailed. search rules;
  channels = search rules;
  told = search rules;
  unbroken = λ e. search rules;
  causes = causes_same (g.S.Store.shows c.args.store.now) (g.S.Store.shows c.put_sections.new.store) c.put_sections.ensures.puts.causes (λ e. search rules) (λ e. search rules);
}
