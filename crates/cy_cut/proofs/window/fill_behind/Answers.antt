use Rattle.std.proofs.Common.{◌≡◌, ◌≤◌, ◌+◌, ◌-◌, ◌++◌, ℕ, List, length, take, drop, ap, rules, arith, length-take, length-drop, length-append}
use Rattle.cy_store.proofs.ReadFront.{both_held, may_hold}
use Rattle.cy_cut.specs.private.Window.{IsFrontAt}
use Rattle.cy_cut.proofs.Windows.{whole_behind, front_first}
use Rattle.cy_cut.proofs.window.fill_behind.Goals as goal

pub returns-clause-read : goal.returns-clause-read
returns-clause-read g c =
    let old = g.S.Store.shows c.args.store.now in
    let front = c.args.front.now in
    let buffer = c.args.buffer.now in
    let k = length front in
    let n = c.in_ok-read.read in
    let part = c.fill.new.buffer in
    let copied = c.copy_from_slice.new.self in
    let room = copied ++ drop k buffer in
    let was = take (length room - k) (drop k room) in
    let rest = drop (length room - k) (drop k room) in
    let same : copied ≡ front = c.copy_from_slice.ensures.after in
    let size : length room ≡ k + (length buffer - k) = omega (arith, length-append copied (drop k buffer), ap length same, length-drop k buffer) in
    let left : length was ≡ length buffer - k = omega (arith, length-take (length room - k) (drop k room), length-drop k room, size) in
    let many : length part ≡ length was = search rules in
    let few : n ≤ length part = omega (arith, c.in_ok-read.ensures.within, many) in
    both_held old.files c.args.name.now (λ file known read. whole_behind file front part rest (take k room ++ (part ++ rest)) c.args.at n (length was) (length buffer) c.requires.fits.0 known few
    (ap (λ (l : List ℕ). l ++ (part ++ rest)) (front_first front copied (drop k buffer) same)) left read)
    (may_hold (IsFrontAt c.args.at front) old.files c.args.name.now c.requires.front) c.in_ok-read.ensures.read
