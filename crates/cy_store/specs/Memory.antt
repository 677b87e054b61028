-- Files in memory: what a contract sees of them, and what becomes of each call.
use Rattle.std.specs.Prelude.{ℕ, ◌+◌, ◌-◌, ◌^◌, min, List, take, map, Bool, true, false, cond, refl}
use Rattle.std.specs.Prelude.{Option, Some, None, is_some, String, Vec, string_bytes}
use Rattle.std.specs.Option.{option_or}
use Rattle.std.specs.Ordering.{nat_cmp}
use Rattle.std.specs.FinMap.{FinMap, empty, get, from_entries, code}
use Rattle.std.specs.Coded.{Coded, code_by, coded×, coded_ℕ, coded_list}
use Rattle.cy_store.specs.Files.{Files}
use Rattle.cy_store.specs.Write.{Create, Put, after_write}
use Rattle.cy_store.specs.Store.{StoreView}

-- Calls that are to fail, by their numbers: each with how many bytes of its piece it writes before,
-- where it is a put.
abbrev pub Plans : Type 0
Plans = FinMap nat_cmp ℕ

-- Files in memory, the counts of faults and of names that were not there, the counts of calls and
-- of the puts among them, and which calls and which puts are to fail.
pub record Memory : Type 0 where
  pub files : Files
  pub faults : ℕ
  pub misses : ℕ
  pub calls : ℕ
  pub puts : ℕ
  pub failing_calls : Plans
  pub failing_puts : Plans

-- A memory is stored as the tuple of its fields.
abbrev pub memory_code : Coded Memory
memory_code =
    let plans = code coded_ℕ coded_ℕ in
    code_by (Files × (ℕ × (ℕ × (ℕ × (ℕ × (Plans × Plans))))))
    (coded× (code (coded_list coded_ℕ) (coded_list coded_ℕ))
    (coded× coded_ℕ (coded× coded_ℕ (coded× coded_ℕ (coded× coded_ℕ (coded× plans plans))))))
    (λ m. (m.files, (m.faults, (m.misses, (m.calls, (m.puts, (m.failing_calls, m.failing_puts)))))))
    (λ p. record {
      files = p.0;
      faults = p.1.0;
      misses = p.1.1.0;
      calls = p.1.1.1.0;
      puts = p.1.1.1.1.0;
      failing_calls = p.1.1.1.1.1.0;
      failing_puts = p.1.1.1.1.1.1;
    })
    (λ _. refl)

-- The files that the entries of a map stand for.
abbrev pub files_of : {Y Z : Type 0} → List (String Y × Vec ℕ Z) → Files
files_of es = from_entries (map (λ e. (string_bytes e.0, e.1.items)) es)

-- No file, no call yet, and none that is to fail.
abbrev pub new_memory : Memory
new_memory = record {
  files = empty;
  faults = 0;
  misses = 0;
  calls = 0;
  puts = 0;
  failing_calls =
      empty;
  failing_puts = empty;
}

-- What it shows as a store.
abbrev pub shows_of : Memory → StoreView
shows_of m = record { files = Some m.files; faults = m.faults; misses = m.misses }

-- A count of 64 bits after one more: at its last value it stays.
abbrev pub next : ℕ → ℕ
next n = min (n + 1) (2 ^ 64 - 1)

-- After a fault.
abbrev pub with_fault : Memory → Memory
with_fault m = record m { faults = next m.faults }

-- After a name that was not there.
abbrev pub with_miss : Memory → Memory
with_miss m = record m { misses = next m.misses }

-- With a call counted.
abbrev pub with_call : Memory → Memory
with_call m = record m { calls = next m.calls }

-- With a put counted, which is a call too.
abbrev pub with_put : Memory → Memory
with_put m = record m { calls = next m.calls; puts = next m.puts }

-- The plan for the next call, if it is to fail.
abbrev pub plan_of_call : Memory → Option ℕ
plan_of_call m = get m.failing_calls (next m.calls)

-- The plan for the next call, if that is a put and is to fail: by its number among the calls, or
-- else among the puts.
abbrev pub plan_of_put : Memory → Option ℕ
plan_of_put m = option_or (plan_of_call m) (get m.failing_puts (next m.puts))

-- What becomes of a call: it works, it misses its name, or it fails as it was to.
pub data Turn : Type 0 where
  Works : Turn
  Misses : Turn
  Fails : (keep : ℕ) → Turn

-- The turn by the plan, and by whether the name is there.
abbrev pub turn_by : Option ℕ → Bool → Turn
turn_by None true = Works
turn_by None false = Misses
turn_by (Some keep) there = Fails keep

-- The turn of a call that reads a name.
abbrev pub turn_of_reading : Memory → List ℕ → Turn
turn_of_reading m name = turn_by (plan_of_call m) (is_some (get m.files name))

-- The turn of a call that makes a file.
abbrev pub turn_of_creation : Memory → Turn
turn_of_creation m = turn_by (plan_of_call m) true

-- The turn of a put.
abbrev pub turn_of_put : Memory → List ℕ → Turn
turn_of_put m name = turn_by (plan_of_put m) (is_some (get m.files name))

-- The counts after a turn: a fault is counted exactly where the call was to fail, a miss exactly
-- where the name was missed.
abbrev pub counted : Turn → Memory → Memory
counted Works m = m
counted Misses m = with_miss m
counted (Fails keep) m = with_fault m

-- The files with bytes put over a file that is there; where the name isn't there, as they were.
abbrev pub put_over : List ℕ → ℕ → List ℕ → Files → Files
put_over name at bytes m = cond (is_some (get m name)) (after_write (Put name at bytes) m) m

-- The files after a put, by its turn: one that was to fail has written the first bytes of its
-- piece.
abbrev pub files_after_put : Turn → List ℕ → ℕ → List ℕ → Files → Files
files_after_put Works name at bytes m = put_over name at bytes m
files_after_put Misses name at bytes m = m
files_after_put (Fails keep) name at bytes m = put_over name at (take keep bytes) m

-- The memory after a call that reads a name.
abbrev pub after_reading : Memory → List ℕ → Memory
after_reading m name = counted (turn_of_reading m name) (with_call m)

-- The files after a creation, by its turn.
abbrev pub files_after_creation : Turn → List ℕ → Files → Files
files_after_creation Works name m = after_write (Create name) m
files_after_creation Misses name m = m
files_after_creation (Fails keep) name m = m

-- The memory after a call that makes a file, where there was memory for it.
abbrev pub after_creation : Memory → List ℕ → Memory
after_creation m name = counted (turn_of_creation m)
    (record (with_call m) { files = files_after_creation (turn_of_creation m) name m.files })

-- The memory after a put, where there was memory for it.
abbrev pub after_put : Memory → List ℕ → ℕ → List ℕ → Memory
after_put m name at bytes = counted (turn_of_put m name)
    (record (with_put m) { files = files_after_put (turn_of_put m name) name at bytes m.files })
