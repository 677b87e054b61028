use Rattle.std.proofs.Common.{◌≡◌, ◌≤◌, ◌-◌, length}
use Rattle.cy_store.specs.Store.{SameCounts}
use Rattle.cy_recording.specs.private.Unlike.{Told}
use Rattle.cy_recording.proofs.Unlikes.{SoFar}
use Rattle.cy_recording.proofs.pieces.compare_through.Given as goal

abbrev pub invariant-loop-done : goal.invariant-loop-done
invariant-loop-done g l = record {
  within : l.done ≤ length l.text;
  room : 1 ≤ length l.buffer;
  files : (g.S.Store.shows l.store).files ≡ (g.S.Store.shows l.fn.store).files;
  counts : SameCounts (g.S.Store.shows l.fn.store) (g.S.Store.shows l.store);
  so_far : Told (g.S.Store.shows l.fn.store).files l.name (SoFar l.at l.done l.text);
}

abbrev pub decreases-loop-done : goal.decreases-loop-done
decreases-loop-done g l = length l.text - l.done
