use Rattle.std.proofs.Common.{ℕ, ◌+◌, ◌≡◌, ◌∙◌, ap, sym, subst, List, [], ◌∷◌, ◌++◌, length, length-append, Some, slice_get}
use Rattle.cy_msg.proofs.Lists.{get_append, get_last}
use borrow.Author.Count.{below_more}
use Rattle.wake_core.specs.Run.{Route, readers_of}
use Rattle.wake_core.specs.private.Shown.{IsTable}
use Rattle.wake_core.proofs.fixed.table_of.Goals as goal

-- The table with one more channel.
one_more : (routes : List Route) (channel : ℕ) (table new : List (List (ℕ × ℕ))) (x : List (ℕ × ℕ)) → length table ≡ channel → IsTable routes channel table
    → new ≡ table ++ x ∷ [] → x ≡ readers_of routes channel → IsTable routes (channel + 1) new
one_more routes channel table new x long old is reads =
    record {
      whole = below_more (λ k. slice_get new k ≡ Some (readers_of routes k)) channel
          (λ k l. subst (λ (ls : List (List (ℕ × ℕ))). slice_get ls k ≡ Some (readers_of routes k)) (sym is) (get_append table (x ∷ []) k (readers_of routes k) (old.whole k l)))
          (subst (λ (ls : List (List (ℕ × ℕ))). slice_get ls channel ≡ Some (readers_of routes channel)) (sym is)
          (subst (λ (n : ℕ). slice_get (table ++ x ∷ []) n ≡ Some (readers_of routes channel)) long (get_last table x ∙ ap (λ (l : List (ℕ × ℕ)). Some l) reads)));
    }

pub loop-channel-preserved : goal.loop-channel-preserved
loop-channel-preserved c =
    let l = c.loop-channel in
    record {
      long = ap length c.in_ok-push.ensures.items ∙ length-append l.table.items (c.new.result ∷ []) ∙ ap (λ (n : ℕ). n + 1) l.invariant.long;
      whole = one_more c.args.routes.now l.channel l.table.items _ c.new.result l.invariant.long l.invariant.whole c.in_ok-push.ensures.items (c.new.ensures ∙ c.in_ok-readers_on.ensures.readers);
    }
