use Rattle.std.proofs.Common.{◌≡◌, map, take, find, IfSome, None}
use Rattle.std.specs.Str.{bytes_eq}
use Rattle.cy_setup.proofs.apart.find_same.Given as goal

abbrev pub invariant-loop-other : goal.invariant-loop-other
invariant-loop-other g l = record {
  same : g.S.Store.shows l.store ≡ g.S.Store.shows l.fn.store;
  none : IfSome (g.S.Store.shows l.fn.store).files (λ _. find (bytes_eq l.fn.name) (map (λ o. o.now) (take l.other-index l.fn.others)) ≡ None);
}
