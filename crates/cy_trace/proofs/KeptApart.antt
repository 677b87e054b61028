-- Calls that are kept apart from their numbers.
use Rattle.std.proofs.Common.{ℕ, ◌≡◌, ◌+◌, ◌≤◌, List, [], ◌∷◌, ◌++◌, length, take, drop, Option, refl, ap, sym, ◌∙◌, arith, append_assoc}
use Rattle.std.proofs.lemmas.List.{drop-append-le, drop_at, get_or_append_left, get_or_at, length-append, length-drop, map-append, take-append-le, take_at}
use Rattle.std.proofs.lemmas.List.Elements.{All-head, All-tail}
use Rattle.std.specs.List.{All}
use Rattle.std.specs.Prelude.{slice_index}
use Rattle.cy_trace.specs.declared.kept_call.KeptCall.{KeptCall}
use Rattle.cy_trace.specs.declared.trace.TraceCall.{TraceCall}
use Rattle.cy_trace.specs.declared.trace.TraceOutput.{TraceOutput}
use Rattle.cy_trace.specs.private.KeptCalls.{Begins, HasNumbers, call_in, calls_in, end_of, output_by}

-- a call of these numbers
abbrev of_numbers : KeptCall → List ℕ → ℕ → TraceCall
of_numbers k seqs seq = record { position = k.position; tail = k.tail; seqs = seqs; out = output_by k.put seq k.time k.value }

-- behind the numbers of a call there may be more
seqs_stay : (numbers more : List ℕ) (first count : ℕ) → first + count ≤ length numbers → take count (drop first (numbers ++ more)) ≡ take count (drop first numbers)
seqs_stay numbers more first count there =
    ap (take count) (drop-append-le first numbers more (omega (arith, there)))
    ∙ take-append-le count (drop first numbers) more (omega (arith, there, length-drop first numbers))

call_stays : (numbers more : List ℕ) (k : KeptCall) → HasNumbers numbers k → call_in (numbers ++ more) k ≡ call_in numbers k
call_stays numbers more k has =
    let seqs = seqs_stay numbers more k.first k.count (omega (arith, has.there)) in
    let seq : slice_index (numbers ++ more) (end_of k) ≡ slice_index numbers (end_of k) = get_or_append_left numbers more 0 (end_of k) has.there in
    ap (λ (ns : List ℕ). of_numbers k ns (slice_index (numbers ++ more) (end_of k))) seqs ∙ ap (of_numbers k (take k.count (drop k.first numbers))) seq

calls_stay : (numbers more : List ℕ) (kept : List KeptCall) → All (λ (k : KeptCall). HasNumbers numbers k) kept → calls_in (numbers ++ more) kept ≡ calls_in numbers kept
calls_stay numbers more [] all = refl
calls_stay numbers more (k ∷ rest) all =
    ap (λ (x : TraceCall). x ∷ calls_in (numbers ++ more) rest) (call_stays numbers more k (All-head (λ (k : KeptCall). HasNumbers numbers k) k rest all))
    ∙ ap (λ (xs : List TraceCall). call_in numbers k ∷ xs) (calls_stay numbers more rest (All-tail (λ (k : KeptCall). HasNumbers numbers k) k rest all))

-- where numbers stand at the beginning of others, calls are the same
calls_same : (numbers others : List ℕ) (kept : List KeptCall) → Begins numbers others → All (λ (k : KeptCall). HasNumbers numbers k) kept → calls_in others kept ≡ calls_in numbers kept
calls_same numbers others kept (more, is) all = ap (λ (ns : List ℕ). calls_in ns kept) is ∙ calls_stay numbers more kept all

-- a call more, where it was added
pub calls_added : (numbers others : List ℕ) (kept new : List KeptCall) (k : KeptCall) (call : TraceCall) (calls : List TraceCall) → calls ≡ calls_in numbers kept → Begins numbers others → All (λ (k : KeptCall). HasNumbers numbers k) kept
    → call_in others k ≡ call → new ≡ kept ++ k ∷ [] → calls_in others new ≡ calls ++ call ∷ []
calls_added numbers others kept new k call calls shown begins all made added =
    ap (calls_in others) added ∙ map-append (call_in others) kept (k ∷ [])
    ∙ ap (λ (xs : List TraceCall). xs ++ call_in others k ∷ []) (calls_same numbers others kept begins all ∙ sym shown)
    ∙ ap (λ (x : TraceCall). calls ++ x ∷ []) made

-- none more, where it wasn't
pub calls_none : (numbers others : List ℕ) (kept new : List KeptCall) (calls : List TraceCall) → calls ≡ calls_in numbers kept → Begins numbers others → All (λ (k : KeptCall). HasNumbers numbers k) kept
    → new ≡ kept → calls_in others new ≡ calls
calls_none numbers others kept new calls shown begins all same = ap (calls_in others) same ∙ calls_same numbers others kept begins all ∙ sym shown

-- a call that was kept last is what it was
pub last_is : (numbers others : List ℕ) (seq : ℕ) (k : KeptCall) (call : TraceCall) → others ≡ numbers ++ call.seqs ++ seq ∷ [] → k.first ≡ length numbers → k.count ≡ length call.seqs
    → k.position ≡ call.position → k.tail ≡ call.tail → output_by k.put seq k.time k.value ≡ call.out → call_in others k ≡ call
last_is numbers others seq k call is first count position tail out =
    let seqs : take k.count (drop k.first others) ≡ call.seqs =
    ap (λ (ns : List ℕ). take k.count (drop k.first ns)) (is ∙ append_assoc numbers call.seqs (seq ∷ []))
    ∙ ap (take k.count) (drop_at numbers (call.seqs ++ seq ∷ []) k.first (sym first))
    ∙ take_at call.seqs (seq ∷ []) k.count (sym count) in
    let last : slice_index others (end_of k) ≡ seq =
    ap (λ (ns : List ℕ). slice_index ns (end_of k)) is
    ∙ get_or_at (numbers ++ call.seqs) seq [] 0 (end_of k) (length-append numbers call.seqs ∙ omega (arith, first, count)) in
    ap (λ (ns : List ℕ). of_numbers k ns (slice_index others (end_of k))) seqs
    ∙ ap (of_numbers k call.seqs) last
    ∙ ap (λ (o : Option TraceOutput). record { position = k.position; tail = k.tail; seqs = call.seqs; out = o }) out
    ∙ ap (λ (n : ℕ). record { position = n; tail = k.tail; seqs = call.seqs; out = call.out }) position
    ∙ ap (λ (n : ℕ). record { position = call.position; tail = n; seqs = call.seqs; out = call.out }) tail
