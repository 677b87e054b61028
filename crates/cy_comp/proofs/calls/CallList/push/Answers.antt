use Rattle.std.proofs.Common.{◌-◌, ◌++◌, ◌∷◌, [], ◌∙◌, ap, arith}
use Rattle.cy_comp.specs.private.CallsView.{CallsView}
use Rattle.cy_comp.proofs.Rowing.{Rows, list-push, seen_with}
use Rattle.cy_comp.proofs.calls.CallList.push.Goals as goal

keeps : (c : goal.After-self-2-1) → Rows c.self.inside.seqs.items c.args.call.now c.new.result
keeps c = record {
  position = c.new.ensures.position;
  tail = c.new.ensures.tail;
  start = omega (arith, c.new.ensures.start, c.len-start.ensures, c.self.inside.seqs.ok.0);
  count = c.new.ensures.count ∙ c.push_seqs-count.ensures.count;
  out = c.new.ensures.out;
}

pub invariant_of-self : goal.invariant_of-self
invariant_of-self c =
    list-push c.self.inside.seqs.items _ c.self.inside.rows.items _ c.self.inside.made.list _ c.args.call.now c.new.result _ _ _ _ _ c.self.invariant
    (omega (arith, c.requires, ap (λ (l : CallsView). l.spare) c.self.view_is)) (keeps c) c.push_seqs-count.ensures.items c.push_reserved.ensures.items
    c.then-self-inside.ensures c.push_seqs-count.ensures.capacity c.push_reserved.ensures.capacity

pub returns : goal.returns
returns c =
    ap (λ m. seen_with m (c.self.inside.spare - 1)) c.then-self-inside.ensures
    ∙ ap (λ (l : CallsView). seen_with (l.made ++ c.args.call.now ∷ []) (l.spare - 1)) c.self.view_is
