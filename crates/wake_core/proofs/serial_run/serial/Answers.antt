use Rattle.std.proofs.Common.{ℕ, ◌≡◌, ◌≤◌, sym, ◌∙◌, ap, subst, refl, length, List}
use Rattle.cy_msg.specs.declared.token.Token.{Token}
use Rattle.cy_msg.specs.declared.placement.ContextPlan.{ContextPlan}
use Rattle.cy_msg.specs.Placement.{scan_of}
use Rattle.cy_msg.specs.Tokens.{IsNumbered, IsTimed}
use Rattle.wake_core.specs.Plain.{Plain}
use Rattle.wake_core.specs.Run.{Run}
use Rattle.wake_core.specs.Serial.{SerialRun}
use Rattle.wake_core.specs.LawfulRun.{LawfulRun}
use Rattle.wake_core.specs.Rest.{MayPlay, run_shown}
use Rattle.wake_core.specs.Turns.{MayPlayOn, PlaysOn, place_of}
use Rattle.wake_core.specs.WorldOf.{plain_of}
use Rattle.wake_core.proofs.Led.{led_by}
use Rattle.wake_core.proofs.Played.{first_may, place_within, stop_may, second_may, second_scan, last_rest, last_scan, serial_run, serial_lawful, serial_events, serial_stays}
use Rattle.wake_core.proofs.serial_run.serial.Goals as goal

-- What is said of a list and of a scan is said of their slices.
may_as : (w : Plain) {items tokens : List Token} {xs ys : List ContextPlan} → items ≡ tokens → xs ≡ ys → MayPlay w tokens (scan_of ys) → MayPlay w items (scan_of xs)
may_as w {tokens = tokens} {xs = xs} a b may = subst (λ (l : List Token). MayPlay w l (scan_of xs)) (sym a) (subst (λ (l : List ContextPlan). MayPlay w tokens (scan_of l)) (sym b) may)

timed_as : {items tokens : List Token} → items ≡ tokens → IsTimed tokens → IsTimed items
timed_as e t = subst IsTimed (sym e) t

numbered_as : {items tokens : List Token} → items ≡ tokens → IsNumbered tokens → IsNumbered items
numbered_as e t = subst IsNumbered (sym e) t

run_as : (w : Plain) {items tokens : List Token} {xs ys : List ContextPlan} (v : Run) → items ≡ tokens → xs ≡ ys → SerialRun w.routes w.stop (scan_of xs) items v → SerialRun w.routes w.stop (scan_of ys) tokens v
run_as w {tokens = tokens} {xs = xs} v a b r = subst (λ (l : List ContextPlan). SerialRun w.routes w.stop (scan_of l) tokens v) b (subst (λ (l : List Token). SerialRun w.routes w.stop (scan_of xs) l v) a r)

-- The place of the stop, as it was looked up.
place_as : (w : Plain) (items : List Token) {place count : ℕ} → place ≡ place_of w.stop count → count ≡ length items → place ≡ place_of w.stop (length items)
place_as w items a b = a ∙ ap (place_of w.stop) b

pub play_all-requires-clause-may : goal.play_all-requires-clause-may
play_all-requires-clause-may c =
    let w : Plain = plain_of c.args.world.now in
    let items = c.as_slice-tokens.result.now in
    let e = c.as_slice-tokens.ensures in
    let may = may_as w e c.as_slice-contexts.ensures c.requires in
    let place = place_as w items c.stop_place-place.ensures refl in
    subst (λ n. MayPlayOn items 0 n w) (sym place) (first_may (scan_of c.as_slice-contexts.result.now) items w may (timed_as e c.args.list.now.timed) (numbered_as e c.args.list.now.numbered))

pub raise-requires : goal.raise-requires
raise-requires c =
    let w : Plain = plain_of c.args.world.now in
    let items = c.as_slice-tokens.result.now in
    let e = c.as_slice-tokens.ensures in
    let may = may_as w e c.as_slice-contexts.ensures c.requires in
    let place = place_as w items c.stop_place-place.ensures refl in
    stop_may (scan_of c.as_slice-contexts.result.now) items w may (timed_as e c.args.list.now.timed) (numbered_as e c.args.list.now.numbered) (plain_of c.play_all.new.world)
    (subst (λ n. PlaysOn (scan_of c.as_slice-contexts.result.now) items 0 n w (plain_of c.play_all.new.world)) place c.play_all.ensures)

pub play_all-requires-2-clause-may : goal.play_all-requires-2-clause-may
play_all-requires-2-clause-may c =
    let w : Plain = plain_of c.args.world.now in
    let scan = scan_of c.as_slice-contexts.result.now in
    let items = c.as_slice-tokens.result.now in
    let e = c.as_slice-tokens.ensures in
    let may = may_as w e c.as_slice-contexts.ensures c.requires in
    let timed = timed_as e c.args.list.now.timed in
    let numbered = numbered_as e c.args.list.now.numbered in
    let place = place_as w items c.stop_place-place.ensures refl in
    let one : PlaysOn scan items 0 (place_of w.stop (length items)) w (plain_of c.play_all.new.world) = subst (λ n. PlaysOn scan items 0 n w (plain_of c.play_all.new.world)) place c.play_all.ensures in
    subst (λ n. MayPlayOn items n (length items) (plain_of c.raise.new.world)) (sym place) (second_may scan items w may timed numbered (plain_of c.play_all.new.world) one (plain_of c.raise.new.world) c.raise.ensures.none c.raise.ensures.raised)

pub play_all-requires-2-clause-scan : goal.play_all-requires-2-clause-scan
play_all-requires-2-clause-scan c =
    let w : Plain = plain_of c.args.world.now in
    let scan = scan_of c.as_slice-contexts.result.now in
    let items = c.as_slice-tokens.result.now in
    let e = c.as_slice-tokens.ensures in
    let may = may_as w e c.as_slice-contexts.ensures c.requires in
    let timed = timed_as e c.args.list.now.timed in
    let numbered = numbered_as e c.args.list.now.numbered in
    let place = place_as w items c.stop_place-place.ensures refl in
    let one : PlaysOn scan items 0 (place_of w.stop (length items)) w (plain_of c.play_all.new.world) = subst (λ n. PlaysOn scan items 0 n w (plain_of c.play_all.new.world)) place c.play_all.ensures in
    second_scan scan items w may timed numbered (plain_of c.play_all.new.world) one (plain_of c.raise.new.world) c.raise.ensures.none c.raise.ensures.raised

pub play_all-requires-2-clause-order : goal.play_all-requires-2-clause-order
play_all-requires-2-clause-order c =
    let w : Plain = plain_of c.args.world.now in
    let scan = scan_of c.as_slice-contexts.result.now in
    let items = c.as_slice-tokens.result.now in
    let e = c.as_slice-tokens.ensures in
    let may = may_as w e c.as_slice-contexts.ensures c.requires in
    let timed = timed_as e c.args.list.now.timed in
    let numbered = numbered_as e c.args.list.now.numbered in
    let place = place_as w items c.stop_place-place.ensures refl in
    subst (λ n. n ≤ length items) (sym place) (place_within scan items w may timed numbered)

pub settle-requires-clause-rest : goal.settle-requires-clause-rest
unfolding plain_of
settle-requires-clause-rest c =
    let w : Plain = plain_of c.args.world.now in
    let scan = scan_of c.as_slice-contexts.result.now in
    let items = c.as_slice-tokens.result.now in
    let e = c.as_slice-tokens.ensures in
    let may = may_as w e c.as_slice-contexts.ensures c.requires in
    let timed = timed_as e c.args.list.now.timed in
    let numbered = numbered_as e c.args.list.now.numbered in
    let place = place_as w items c.stop_place-place.ensures refl in
    let one : PlaysOn scan items 0 (place_of w.stop (length items)) w (plain_of c.play_all.new.world) = subst (λ n. PlaysOn scan items 0 n w (plain_of c.play_all.new.world)) place c.play_all.ensures in
    let two : PlaysOn scan items (place_of w.stop (length items)) (length items) (plain_of c.raise.new.world) (plain_of c.play_all-2.new.world) =
    subst (λ n. PlaysOn scan items n (length items) (plain_of c.raise.new.world) (plain_of c.play_all-2.new.world)) place c.play_all-2.ensures in
    last_rest scan items w may timed numbered (plain_of c.play_all.new.world) one (plain_of c.raise.new.world) c.raise.ensures.none c.raise.ensures.raised (plain_of c.play_all-2.new.world) (plain_of c.end_clock.new.world) two c.end_clock.ensures

pub settle-requires-clause-scan : goal.settle-requires-clause-scan
unfolding plain_of
settle-requires-clause-scan c =
    let w : Plain = plain_of c.args.world.now in
    let scan = scan_of c.as_slice-contexts.result.now in
    let items = c.as_slice-tokens.result.now in
    let e = c.as_slice-tokens.ensures in
    let may = may_as w e c.as_slice-contexts.ensures c.requires in
    let timed = timed_as e c.args.list.now.timed in
    let numbered = numbered_as e c.args.list.now.numbered in
    let place = place_as w items c.stop_place-place.ensures refl in
    let one : PlaysOn scan items 0 (place_of w.stop (length items)) w (plain_of c.play_all.new.world) = subst (λ n. PlaysOn scan items 0 n w (plain_of c.play_all.new.world)) place c.play_all.ensures in
    let two : PlaysOn scan items (place_of w.stop (length items)) (length items) (plain_of c.raise.new.world) (plain_of c.play_all-2.new.world) =
    subst (λ n. PlaysOn scan items n (length items) (plain_of c.raise.new.world) (plain_of c.play_all-2.new.world)) place c.play_all-2.ensures in
    last_scan scan items w may timed numbered (plain_of c.play_all.new.world) one (plain_of c.raise.new.world) c.raise.ensures.none c.raise.ensures.raised (plain_of c.play_all-2.new.world) (plain_of c.end_clock.new.world) two c.end_clock.ensures

pub returns-clause-run : goal.returns-clause-run
unfolding plain_of
returns-clause-run c =
    let w : Plain = plain_of c.args.world.now in
    let scan = scan_of c.as_slice-contexts.result.now in
    let items = c.as_slice-tokens.result.now in
    let e = c.as_slice-tokens.ensures in
    let may = may_as w e c.as_slice-contexts.ensures c.requires in
    let timed = timed_as e c.args.list.now.timed in
    let numbered = numbered_as e c.args.list.now.numbered in
    let place = place_as w items c.stop_place-place.ensures refl in
    let one : PlaysOn scan items 0 (place_of w.stop (length items)) w (plain_of c.play_all.new.world) = subst (λ n. PlaysOn scan items 0 n w (plain_of c.play_all.new.world)) place c.play_all.ensures in
    let two : PlaysOn scan items (place_of w.stop (length items)) (length items) (plain_of c.raise.new.world) (plain_of c.play_all-2.new.world) =
    subst (λ n. PlaysOn scan items n (length items) (plain_of c.raise.new.world) (plain_of c.play_all-2.new.world)) place c.play_all-2.ensures in
    run_as w (run_shown (plain_of c.settle.new.world)) e c.as_slice-contexts.ensures (serial_run scan items w may timed numbered (plain_of c.play_all.new.world) one (plain_of c.raise.new.world) c.raise.ensures.none c.raise.ensures.raised (plain_of c.play_all-2.new.world) (plain_of c.end_clock.new.world) two c.end_clock.ensures (plain_of c.settle.new.world) c.settle.ensures c.settle.new.world.sound)

pub returns-clause-lawful : goal.returns-clause-lawful
unfolding plain_of
returns-clause-lawful c =
    let w : Plain = plain_of c.args.world.now in
    let scan = scan_of c.as_slice-contexts.result.now in
    let items = c.as_slice-tokens.result.now in
    let e = c.as_slice-tokens.ensures in
    let may = may_as w e c.as_slice-contexts.ensures c.requires in
    let timed = timed_as e c.args.list.now.timed in
    let numbered = numbered_as e c.args.list.now.numbered in
    let place = place_as w items c.stop_place-place.ensures refl in
    let one : PlaysOn scan items 0 (place_of w.stop (length items)) w (plain_of c.play_all.new.world) = subst (λ n. PlaysOn scan items 0 n w (plain_of c.play_all.new.world)) place c.play_all.ensures in
    let two : PlaysOn scan items (place_of w.stop (length items)) (length items) (plain_of c.raise.new.world) (plain_of c.play_all-2.new.world) =
    subst (λ n. PlaysOn scan items n (length items) (plain_of c.raise.new.world) (plain_of c.play_all-2.new.world)) place c.play_all-2.ensures in
    subst (λ (l : List Token). LawfulRun l w.routes w.stop (plain_of c.settle.new.world)) e (serial_lawful scan items w may timed numbered (plain_of c.play_all.new.world) one (plain_of c.raise.new.world) c.raise.ensures.none c.raise.ensures.raised (plain_of c.play_all-2.new.world) (plain_of c.end_clock.new.world) two c.end_clock.ensures (plain_of c.settle.new.world) c.settle.ensures c.settle.new.world.sound c.outcomes_are_answers.ensures)

pub returns-clause-stays : goal.returns-clause-stays
unfolding plain_of
returns-clause-stays c =
    let w : Plain = plain_of c.args.world.now in
    let scan = scan_of c.as_slice-contexts.result.now in
    let items = c.as_slice-tokens.result.now in
    let e = c.as_slice-tokens.ensures in
    let may = may_as w e c.as_slice-contexts.ensures c.requires in
    let timed = timed_as e c.args.list.now.timed in
    let numbered = numbered_as e c.args.list.now.numbered in
    let place = place_as w items c.stop_place-place.ensures refl in
    let one : PlaysOn scan items 0 (place_of w.stop (length items)) w (plain_of c.play_all.new.world) = subst (λ n. PlaysOn scan items 0 n w (plain_of c.play_all.new.world)) place c.play_all.ensures in
    let two : PlaysOn scan items (place_of w.stop (length items)) (length items) (plain_of c.raise.new.world) (plain_of c.play_all-2.new.world) =
    subst (λ n. PlaysOn scan items n (length items) (plain_of c.raise.new.world) (plain_of c.play_all-2.new.world)) place c.play_all-2.ensures in
    serial_stays scan items w may timed numbered (plain_of c.play_all.new.world) one (plain_of c.raise.new.world) c.raise.ensures.none c.raise.ensures.raised (plain_of c.play_all-2.new.world) (plain_of c.end_clock.new.world) two c.end_clock.ensures (plain_of c.settle.new.world) c.settle.ensures c.settle.new.world.sound

pub returns-clause-led : goal.returns-clause-led
unfolding plain_of
returns-clause-led c =
    let w : Plain = plain_of c.args.world.now in
    let scan = scan_of c.as_slice-contexts.result.now in
    let items = c.as_slice-tokens.result.now in
    let e = c.as_slice-tokens.ensures in
    let may = may_as w e c.as_slice-contexts.ensures c.requires in
    let timed = timed_as e c.args.list.now.timed in
    let numbered = numbered_as e c.args.list.now.numbered in
    let place = place_as w items c.stop_place-place.ensures refl in
    let one : PlaysOn scan items 0 (place_of w.stop (length items)) w (plain_of c.play_all.new.world) = subst (λ n. PlaysOn scan items 0 n w (plain_of c.play_all.new.world)) place c.play_all.ensures in
    let two : PlaysOn scan items (place_of w.stop (length items)) (length items) (plain_of c.raise.new.world) (plain_of c.play_all-2.new.world) =
    subst (λ n. PlaysOn scan items n (length items) (plain_of c.raise.new.world) (plain_of c.play_all-2.new.world)) place c.play_all-2.ensures in
    led_by c.fetches_find.ensures.find w (plain_of c.settle.new.world) (serial_events scan items w may timed numbered (plain_of c.play_all.new.world) one (plain_of c.raise.new.world) c.raise.ensures.none c.raise.ensures.raised (plain_of c.play_all-2.new.world) (plain_of c.end_clock.new.world) two c.end_clock.ensures (plain_of c.settle.new.world) c.settle.ensures c.settle.new.world.sound) c.args.world.now.sound
