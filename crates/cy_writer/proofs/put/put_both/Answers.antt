use Rattle.std.proofs.Common.{rules, ◌∷◌, [], ◌∙◌, inl, inr}
use Rattle.cy_store.specs.Write.{Put}
use Rattle.cy_writer.proofs.Puts.{makes_first, makes_then, causes_same, causes_then}
use Rattle.cy_writer.proofs.put.put_both.Goals as goal

pub returns-in_err-put-clause-puts : goal.returns-in_err-put-clause-puts
returns-in_err-put-clause-puts g c =
    let old = g.S.Store.shows c.args.store.now in
    let new = g.S.Store.shows c.put.new.store in
    record {
      makes = makes_first c.put.result c.from_residual.result (Put c.args.name.now c.args.at c.args.first.now ∷ []) (Put c.args.name.now c.args.second_at c.args.second.now ∷ [])
          old new c.put.ensures.puts.makes (search rules) (λ e h. search rules);
      longer = search rules;
      memory = λ e. inl (c.put.ensures.puts.memory (search rules));
      told = search rules;
      causes = causes_same old new c.put.ensures.puts.causes (λ e. search rules) (λ e. search rules);
    }

pub returns-clause-puts : goal.returns-clause-puts
returns-clause-puts g c =
    let old = g.S.Store.shows c.args.store.now in
    let mid = g.S.Store.shows c.put.new.store in
    let new = g.S.Store.shows c.put-2.new.store in
    let first = c.in_ok-put.ensures.puts.makes.done in
    record {
      makes = makes_then c.put-2.result (Put c.args.name.now c.args.at c.args.first.now ∷ []) (Put c.args.name.now c.args.second_at c.args.second.now ∷ [])
          old mid new first c.put-2.ensures.puts.makes c.put-2.ensures.unbroken;
      longer = c.put-2.ensures.puts.longer;
      memory = λ e. inr (c.put-2.ensures.puts.memory e ∙ first);
      told = search rules;
      causes = causes_then old mid new (c.put.ensures.puts.causes.quiet (λ e. search rules)) c.in_ok-put.ensures.puts.told c.put-2.ensures.puts.causes;
    }
