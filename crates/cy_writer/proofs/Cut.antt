-- Chunks that end where they have to.
use Rattle.std.proofs.Common.{◌≡◌, ℕ, Bool, true, false, ◌&&◌, List, [], ◌∷◌, ◌++◌, length, refl, sym, ap, subst, ◌∙◌, arith, append_assoc, append-nil}
use Rattle.std.specs.Prelude.{IsTrue, not}
use Rattle.cy_section.specs.declared.types.BodyMessage.{BodyMessage}
use Rattle.cy_section.specs.declared.types.Channel.{Channel}
use Rattle.cy_section.specs.Chunks.{takes, all_taken, is_full, is_nonempty, are_chunks}
use Rattle.cy_writer.specs.Given.{Given, nothing_given, with_channel, with_chunk, with_message, kept_chunk, messages_of, IsCut}
use Rattle.cy_writer.proofs.Standing.{messages_of-more, messages_of-put}

both : (a b : Bool) → a ≡ true → b ≡ true → (a && b) ≡ true
both true true e f = refl
both true false e f = f
both false b e f = e

left_of : (a b : Bool) → (a && b) ≡ true → a ≡ true
left_of true b e = refl
left_of false b e = e

right_of : (a b : Bool) → (a && b) ≡ true → b ≡ true
right_of true b e = e
right_of false b e = cc

-- one more message is taken by those before it
all_taken-push : (before rest : List BodyMessage) (m : BodyMessage) → all_taken before rest ≡ true → takes (before ++ rest) m ≡ true → all_taken before (rest ++ m ∷ []) ≡ true
all_taken-push before [] m all taken = both (takes before m) true (subst (λ (ms : List BodyMessage). takes ms m ≡ true) (append-nil before) taken) refl
all_taken-push before (first ∷ rest) m all taken =
    both (takes before first) (all_taken (before ++ first ∷ []) (rest ++ m ∷ []))
    (left_of (takes before first) (all_taken (before ++ first ∷ []) rest) all)
    (all_taken-push (before ++ first ∷ []) rest m (right_of (takes before first) (all_taken (before ++ first ∷ []) rest) all)
    (subst (λ (ms : List BodyMessage). takes ms m ≡ true) (sym (append_assoc before (first ∷ []) rest)) taken))

-- the parts of what chunks are
parts_of-cut : (chunk : List BodyMessage) (later : List (List BodyMessage)) → are_chunks (chunk ∷ later) ≡ true
    → (is_nonempty chunk ≡ true) × ((all_taken [] chunk ≡ true) × ((is_full chunk later ≡ true) × (are_chunks later ≡ true)))
parts_of-cut chunk later cut =
    let front = left_of (is_nonempty chunk && all_taken [] chunk && is_full chunk later) (are_chunks later) cut in
    let start = left_of (is_nonempty chunk && all_taken [] chunk) (is_full chunk later) front in (
      left_of (is_nonempty chunk) (all_taken [] chunk) start,
      (
        right_of (is_nonempty chunk) (all_taken [] chunk) start,
        (
          right_of (is_nonempty chunk && all_taken [] chunk) (is_full chunk later) front,
          right_of (is_nonempty chunk && all_taken [] chunk && is_full chunk later) (are_chunks later) cut,
        ),
      ),
    )

cut_of-parts : (chunk : List BodyMessage) (later : List (List BodyMessage)) → is_nonempty chunk ≡ true → all_taken [] chunk ≡ true
    → is_full chunk later ≡ true → are_chunks later ≡ true → are_chunks (chunk ∷ later) ≡ true
cut_of-parts chunk later nonempty all full others =
    both (is_nonempty chunk && all_taken [] chunk && is_full chunk later) (are_chunks later)
    (both (is_nonempty chunk && all_taken [] chunk) (is_full chunk later) (both (is_nonempty chunk) (all_taken [] chunk) nonempty all) full) others

-- a chunk is full by the first message of the next one
same_full : (chunk : List BodyMessage) (m : BodyMessage) (closed : List (List BodyMessage)) (x : BodyMessage) (xs : List BodyMessage)
    → is_full chunk (closed ++ (x ∷ xs) ∷ []) ≡ is_full chunk (closed ++ (x ∷ (xs ++ m ∷ [])) ∷ [])
same_full chunk m [] x xs = refl
same_full chunk m ([] ∷ later) x xs = refl
same_full chunk m ((next ∷ rest) ∷ later) x xs = refl

-- the last chunk takes one more message
grown : (closed : List (List BodyMessage)) (x : BodyMessage) (xs : List BodyMessage) (m : BodyMessage) → takes (x ∷ xs) m ≡ true
    → are_chunks (closed ++ (x ∷ xs) ∷ []) ≡ true → are_chunks (closed ++ (x ∷ (xs ++ m ∷ [])) ∷ []) ≡ true
grown [] x xs m taken cut =
    let parts = parts_of-cut (x ∷ xs) [] cut in
    cut_of-parts (x ∷ (xs ++ m ∷ [])) [] refl (all_taken-push [] (x ∷ xs) m parts.1.0 taken) refl refl
grown (chunk ∷ rest) x xs m taken cut =
    let parts = parts_of-cut chunk (rest ++ (x ∷ xs) ∷ []) cut in
    cut_of-parts chunk (rest ++ (x ∷ (xs ++ m ∷ [])) ∷ []) parts.0 parts.1.0 (sym (same_full chunk m rest x xs) ∙ parts.1.1.0) (grown rest x xs m taken parts.1.1.1)

-- another chunk begins, since the last one is full
begun : (closed : List (List BodyMessage)) (last : List BodyMessage) (m : BodyMessage) → takes last m ≡ false
    → are_chunks (closed ++ last ∷ []) ≡ true → are_chunks ((closed ++ last ∷ []) ++ (m ∷ []) ∷ []) ≡ true
begun [] last m full cut =
    let parts = parts_of-cut last [] cut in
    cut_of-parts last ((m ∷ []) ∷ []) parts.0 parts.1.0 (ap not full) refl
begun (chunk ∷ rest) last m full cut =
    let parts = parts_of-cut chunk (rest ++ last ∷ []) cut in
    cut_of-parts chunk ((rest ++ last ∷ []) ++ (m ∷ []) ∷ []) parts.0 parts.1.0
    (sym (still_full chunk rest last m (last_nonempty rest last parts.1.1.1)) ∙ parts.1.1.0) (begun rest last m full parts.1.1.1)
  where
    still_full : (chunk : List BodyMessage) (rest : List (List BodyMessage)) (last : List BodyMessage) (m : BodyMessage) → is_nonempty last ≡ true
        → is_full chunk (rest ++ last ∷ []) ≡ is_full chunk ((rest ++ last ∷ []) ++ (m ∷ []) ∷ [])
    still_full chunk [] [] m some = refl
    still_full chunk [] (next ∷ more) m some = refl
    still_full chunk ([] ∷ others) last m some = refl
    still_full chunk ((next ∷ more) ∷ others) last m some = refl

    last_nonempty : (rest : List (List BodyMessage)) (last : List BodyMessage) → are_chunks (rest ++ last ∷ []) ≡ true → is_nonempty last ≡ true
    last_nonempty [] last cut = (parts_of-cut last [] cut).0
    last_nonempty (chunk ∷ rest) last cut = last_nonempty rest last (parts_of-cut chunk (rest ++ last ∷ []) cut).1.1.1

-- What was given.

pub nothing_cut : (name : List ℕ) → IsCut (nothing_given name)
nothing_cut name = record { chunks = refl; begun = λ e. refl }

pub channel_cut : (g : Given) (c : Channel) → IsCut g → IsCut (with_channel g c)
channel_cut g c cut = record { chunks = cut.chunks; begun = cut.begun }

no_cons : {X : Type 0} (x : X) (xs : List X) → x ∷ xs ≡ [] → ⊥
no_cons x xs e = absurd (omega (arith, ap length e))

taken_cut : (g : Given) (m : BodyMessage) (gathered : List BodyMessage) → g.gathered ≡ gathered → takes gathered m ≡ true → IsCut g
    → are_chunks (g.closed ++ kept_chunk (gathered ++ m ∷ [])) ≡ true
taken_cut g m [] e taken cut = ap (λ (closed : List (List BodyMessage)). are_chunks (closed ++ (m ∷ []) ∷ [])) (cut.begun e)
taken_cut g m (x ∷ xs) e taken cut =
    grown g.closed x xs m taken (subst (λ (ms : List BodyMessage). IsTrue (are_chunks (g.closed ++ kept_chunk ms))) e cut.chunks)

put_cut : (g : Given) (m : BodyMessage) (gathered : List BodyMessage) → g.gathered ≡ gathered → takes gathered m ≡ false → IsCut g
    → are_chunks ((g.closed ++ gathered ∷ []) ++ (m ∷ []) ∷ []) ≡ true
put_cut g m [] e full cut = cc
put_cut g m (x ∷ xs) e full cut =
    begun g.closed (x ∷ xs) m full (subst (λ (ms : List BodyMessage). IsTrue (are_chunks (g.closed ++ kept_chunk ms))) e cut.chunks)

pub message_cut : (g : Given) (m : BodyMessage) → IsCut g → IsCut (with_message g m)
message_cut g m cut = either (takes g.gathered m) refl
  where
    either : (b : Bool) → takes g.gathered m ≡ b → IsCut (with_message g m)
    either true taken = rw taken record { chunks = taken_cut g m g.gathered refl taken cut; begun = λ e. absurd (some g.gathered e) }
      where
        some : (ms : List BodyMessage) → ms ++ m ∷ [] ≡ [] → ⊥
        some [] e = no_cons m [] e
        some (x ∷ xs) e = no_cons x (xs ++ m ∷ []) e
    either false full = rw full record { chunks = put_cut g m g.gathered refl full cut; begun = λ e. absurd (no_cons m [] e) }

pub message_last : (g : Given) (m : BodyMessage) → messages_of (with_message g m) ≡ messages_of g ++ m ∷ []
message_last g m = either (takes g.gathered m) refl
  where
    either : (b : Bool) → takes g.gathered m ≡ b → messages_of (with_message g m) ≡ messages_of g ++ m ∷ []
    either true taken = rw taken (messages_of-more g m)
    either false full = rw full (messages_of-more (with_chunk g) m ∙ ap (λ (ms : List BodyMessage). ms ++ m ∷ []) (messages_of-put g))
