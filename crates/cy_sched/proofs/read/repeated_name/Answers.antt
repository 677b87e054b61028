use Rattle.std.proofs.Common.{ℕ, List, true, Some, cond, map, take, ap, sym, ◌∙◌}
use Rattle.std.specs.List.{list_any}
use Rattle.std.specs.Str.{bytes_eq}
use Rattle.std.specs.HashSet.{contains_by}
use Rattle.cy_sched.proofs.Repeats.{kept_more, behind_step, was_kept, was_new, found_where, later_where}
use Rattle.cy_sched.proofs.read.repeated_name.Goals as goal

pub returns-then-not-branch : goal.returns-then-not-branch
returns-then-not-branch c =
    let names = map (λ g. g.name) (take c.loop-group.group-index c.args.groups.now) in
    let step = behind_step c.args.groups.now c.loop-group.group-index c.group-item.result c.loop-group-test.true c.group-item.is in
    let seen = sym (c.loop-group.invariant.kept c.as_str-name.result.now) ∙ was_kept _ _ c.in_ok-insert.ensures.added c.if-not-branch.true in
    let among = ap (λ (q : List ℕ). list_any (λ n. bytes_eq n q) names) (sym c.as_str-name.ensures.value) ∙ seen in
    sym (c.loop-group.invariant.behind ∙ step ∙ found_where _ _ _ among ∙ ap (λ (x : List ℕ). Some x) (sym (c.in_ok-new.ensures.copy ∙ c.as_str-name.ensures.value)))

pub loop-group-preserved : goal.loop-group-preserved
loop-group-preserved c =
    let names = map (λ g. g.name) (take c.loop-group.group-index c.args.groups.now) in
    let step = behind_step c.args.groups.now c.loop-group.group-index c.group-item.result c.loop-group-test.true c.group-item.is in
    let fresh = sym (c.loop-group.invariant.kept c.as_str-name.result.now) ∙ was_new _ _ c.in_ok-insert.ensures.added c.if-not-branch.false in
    let apart = ap (λ (q : List ℕ). list_any (λ n. bytes_eq n q) names) (sym c.as_str-name.ensures.value) ∙ fresh in
    record {
      kept = λ q. kept_more c.args.groups.now c.loop-group.group-index c.group-item.result q _ _ c.loop-group-test.true c.group-item.is (c.loop-group.invariant.kept q)
          (c.in_ok-insert.ensures.updates.0 (record { ref_ptr = (0, 0); now = q })
          ∙ ap (λ (n : List ℕ). cond (bytes_eq n q) true (contains_by (λ k. bytes_eq q k.now) c.loop-group.names)) c.as_str-name.ensures.value);
      behind = c.loop-group.invariant.behind ∙ step ∙ later_where _ _ _ apart;
    }
