-- What other crates cite of the proofs here: how arrivals, outputs and calls grow by one, which
-- component writes a channel, and how many messages are planned. Of the other proofs here nothing
-- is cited elsewhere.
pub use Rattle.wake_core.proofs.Arrived.{fused-append, of_role_other, of_role_own, on_channel-other, on_channel-own}
pub use Rattle.wake_core.proofs.Arriving.{arrived_few, planned_trigger}
pub use Rattle.wake_core.proofs.Beginning.{read_within_equal}
pub use Rattle.wake_core.proofs.Calling.{IsNextCall, earlier_output, lawful_call}
pub use Rattle.wake_core.proofs.Counting.{writes_position}
pub use Rattle.wake_core.proofs.Fetching.{calls_below, fused_few, position_rises, tail_bounded}
pub use Rattle.wake_core.proofs.FoundBounds.{planned_kept}
pub use Rattle.wake_core.proofs.HeldTimes.{held_so}
pub use Rattle.wake_core.proofs.Listed.{to_play_total}
pub use Rattle.wake_core.proofs.MoreCalls.{length_outs-push, outs-push}
pub use Rattle.wake_core.proofs.Outputs.{IsAt, last_push, outs_few, outs_take}
pub use Rattle.wake_core.proofs.Putting.{outs_none}
pub use Rattle.wake_core.proofs.Reading.{read_at}
pub use Rattle.wake_core.proofs.Standing.{fused_arrived, get_parts, tape_stands}
pub use Rattle.wake_core.proofs.Totals.{tape_planned}
pub use Rattle.wake_core.proofs.Writers.{counted_known, planned_root, unwritten_out, writes_own, writes_some}
