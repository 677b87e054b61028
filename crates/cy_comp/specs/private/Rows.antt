-- Calls as rows: what each has beside the numbers of its messages, which stand one behind another.
use Rattle.std.specs.Prelude.{ℕ, ◌+◌, ◌*◌, ◌≡◌, ◌≤◌, ◌==◌, if◌then◌else◌, Bool, List, [], ◌∷◌}
use Rattle.std.specs.Prelude.{length, map, get_or, slice_get, Option, Some, None}
use Rattle.cy_comp.specs.declared.call.Out.{Out}
use Rattle.cy_comp.specs.declared.call.Call.{Call}
use Rattle.cy_comp.specs.declared.calls.Row.{Row}
use Rattle.cy_comp.specs.declared.summary.CallSummary.{CallSummary}
use Rattle.cy_comp.specs.declared.summary.TupleSeqs.{TupleSeqs}
use Rattle.cy_comp.specs.declared.summary.TupleSeqs.TheVariants.{One, Two, Three, Four}
use Rattle.cy_comp.specs.Summary.{summary_of}

abbrev pub seq_in : List ℕ → ℕ → ℕ
seq_in seqs place = get_or seqs place 0

-- So many numbers from a place on.
abbrev pub seqs_in : List ℕ → (start count : ℕ) → TupleSeqs
seqs_in seqs start count =
    let n = seq_in seqs in
    if count == 1 then One (n start) else (
    if count == 2 then Two (n start) (n (start + 1)) else (
    if count == 3 then Three (n start) (n (start + 1)) (n (start + 2)) else
    Four (n start) (n (start + 1)) (n (start + 2)) (n (start + 3))))

-- A value that is there, or none.
abbrev pub given : {X : Type 0} → Bool → X → Option X
given there x = if there then Some x else None

-- What a call put out.
abbrev pub out_in : Row → Option Out
out_in r = given r.has_out (record {
  time = r.time;
  whole = given r.has_whole r.whole;
  origin = given r.has_origin r.origin;
})

-- What a row keeps of its call.
abbrev pub summary_in : List ℕ → Row → CallSummary
summary_in seqs r = record {
  position = r.position;
  tail = r.tail;
  seqs = seqs_in seqs r.start r.count;
  out = out_in r;
}

-- The numbers of a row are one to four of these.
pub record IsWithin (seqs : List ℕ) (r : Row) : Type 0 where
  pub some : 1 ≤ r.count
  pub few : r.count ≤ 4
  pub within : r.start + r.count ≤ length seqs

-- The rows keep these calls.
pub record Keep (seqs : List ℕ) (rows : List Row) (made : List Call) : Type 0 where
  pub within : (n : ℕ) (r : Row) → slice_get rows n ≡ Some r → IsWithin seqs r
  pub same : map (summary_in seqs) rows ≡ map summary_of made

-- They keep all calls, and there is room for the spare ones.
pub record IsCallList (seqs : List ℕ) (rows : List Row) (made : List Call)
    (spare seq_room room : ℕ) : Type 0 where
  pub keep : Keep seqs rows made
  pub fits : length rows + spare ≤ room
  pub seqs_fit : length seqs + 4 * spare ≤ seq_room
