-- A record while its channels are put one after another.
use Rattle.std.proofs.Common.{◌≡◌, ℕ, ◌+◌, List, [], ◌∷◌, ◌++◌, zero, suc, length, map, take, drop, Some, Result, Ok, Err, IsErrOf, refl, sym, ap, subst, ◌∙◌, arith}
use Rattle.std.specs.Prelude.{slice_get}
use Rattle.std.proofs.lemmas.List.{map-append, take-append-drop, take_more, drop_more}
use Rattle.std.proofs.lemmas.Option.{slice_get_within, get_or_from_slice_get, none-some}
use Rattle.cy_store.specs.Store.{StoreView}
use Rattle.cy_section.specs.declared.types.Channel.{Channel}
use Rattle.cy_writer.specs.declared.error.WriteError.{WriteError}
use Rattle.cy_writer.specs.declared.error.WriteError.TheVariants as write_error
use Rattle.cy_writer.specs.declared.record.ChannelRef.{ChannelRef}
use Rattle.cy_writer.specs.declared.writer.RecordWriter.{RecordWriter}
use Rattle.cy_writer.specs.Calls.{Begins, PutsChannel, IsRefusedBroken}
use Rattle.cy_writer.specs.Record.{channel_shown, channels_shown}
use Rattle.cy_writer.specs.RecordWrites.{given_channels}
use Rattle.cy_writer.specs.Stands.{Stands, HaveOwnNames, IsNewName, IsThere}
use Rattle.cy_writer.specs.private.Steps.{StartsRecord}
use Rattle.cy_writer.specs.Writes.{Makes}
use Rattle.cy_writer.proofs.Giving.{behind, same_error}
use Rattle.cy_writer.proofs.Puts.{causes_same}
use Rattle.cy_writer.proofs.RecordCalls.{IsUnderWay, front_writes, unbroken, causes_later, makes_unbegun, makes_channel, given_channel}

-- the first items of a list, with one more
map_more : {A B : Type 0} (f : A → B) (xs : List A) (n : ℕ) (x : A) → slice_get xs n ≡ Some x → map f (take (n + 1) xs) ≡ map f (take n xs) ++ f x ∷ []
map_more {A = A} f xs n x here =
    ap (map f) (take_more xs n x (slice_get_within xs n x here) ∙ ap (λ (y : A). take n xs ++ y ∷ []) (get_or_from_slice_get xs n x x here))
    ∙ map-append f (take n xs) (x ∷ [])

-- and with all that follow
map_split : {A B : Type 0} (f : A → B) (xs : List A) (n : ℕ) (x : A) → slice_get xs n ≡ Some x → map f (take n xs) ++ f x ∷ map f (drop (n + 1) xs) ≡ map f xs
map_split {A = A} f xs n x here =
    sym (map-append f (take n xs) (x ∷ drop (n + 1) xs))
    ∙ ap (map f)
    (ap (λ (l : List A). take n xs ++ l)
    (sym (drop_more xs n x (slice_get_within xs n x here) ∙ ap (λ (y : A). y ∷ drop (n + 1) xs) (get_or_from_slice_get xs n x x here)))
    ∙ take-append-drop n xs)

kept : {A : Type 0} (xs ys : List A) (i : ℕ) (x : A) → slice_get xs i ≡ Some x → slice_get (xs ++ ys) i ≡ Some x
kept [] ys i x here = absurd (none-some x here)
kept (y ∷ xs) ys zero x here = here
kept (y ∷ xs) ys (suc i) x here = kept xs ys i x here

-- no channel before another has its name
new_name : (all before later : List Channel) (c : Channel) → HaveOwnNames all → before ++ c ∷ later ≡ all → IsNewName c.name before
new_name all before later c own split i d there same =
    let at : slice_get all i ≡ Some d = ap (λ (l : List Channel). slice_get l i) (sym split) ∙ kept before (c ∷ later) i d there in
    let last : slice_get all (length before) ≡ Some c = ap (λ (l : List Channel). slice_get l (length before)) (sym split) ∙ behind before c later in
    let one : i ≡ length before = own i (length before) d c at last same in
    omega (arith, one, slice_get_within before i d there)

-- the file could not be begun
pub starts_unbegun : (e : WriteError) (name : List ℕ) (channels : List Channel) (old new : StoreView)
    → (let r : Result RecordWriter WriteError = Err e in Begins name old new r) → (let r : Result RecordWriter WriteError = Err e in StartsRecord name channels old new r)
starts_unbegun e name channels old new begins =
    let r : Result RecordWriter WriteError = Err e in
    record {
      given = tt;
      there = tt;
      makes = makes_unbegun r r name channels old new begins.makes tt (λ f same. same);
      unbroken = begins.unbroken;
      causes = begins.causes;
    }

-- a channel could not be put
pub starts_stopped : {T : Type 0} (e : WriteError) (name : List ℕ) (channels : List ChannelRef) (n : ℕ) (c : ChannelRef) (v w : RecordWriter) (old mid new : StoreView)
    → slice_get channels n ≡ Some c → IsUnderWay name (channels_shown (take n channels)) [] v old mid
    → (let r : Result T WriteError = Err e in PutsChannel (Stands v) (Stands w) (channel_shown c) mid new r)
    → (let r : Result T WriteError = Err e in IsRefusedBroken v mid new r)
    → (let r : Result RecordWriter WriteError = Err e in StartsRecord name (channels_shown channels) old new r)
starts_stopped {T = T} e name channels n c v w old mid new here under puts refused =
    let r : Result T WriteError = Err e in
    let answer : Result RecordWriter WriteError = Err e in
    let so_far = channels_shown (take n channels) in
    let g = given_channels name so_far in
    let whole : IsErrOf answer write_error.Broken → ⊥ = λ broken. unbroken v g under.stands (refused.broken (same_error e write_error.Broken broken)) in
    record {
      given = tt;
      there = tt;
      makes = subst (λ (cs : List Channel). Makes (front_writes name cs []) old new answer) (map_split channel_shown channels n c here)
          (makes_channel r answer name so_far (channel_shown c) (channels_shown (drop (n + 1) channels)) v old mid new under
          (puts.makes g under.stands) tt (λ f same. same_error e f same) whole);
      unbroken = whole;
      causes = causes_later (front_writes name so_far []) old mid new under.files under.counts
          (causes_same mid new puts.causes (λ failed. same_error e write_error.Failed failed) (λ failed. same_error e write_error.Failed failed));
    }

-- a channel was put
pub starts_further : {T : Type 0} (t : T) (name : List ℕ) (channels : List ChannelRef) (n : ℕ) (c : ChannelRef) (v w : RecordWriter) (old mid new : StoreView)
    → HaveOwnNames (channels_shown channels) → slice_get channels n ≡ Some c → IsUnderWay name (channels_shown (take n channels)) [] v old mid
    → (let r : Result T WriteError = Ok t in PutsChannel (Stands v) (Stands w) (channel_shown c) mid new r) → IsThere w new.files
    → IsUnderWay name (channels_shown (take (n + 1) channels)) [] w old new
starts_further t name channels n c v w old mid new own here under puts there =
    let so_far = channels_shown (take n channels) in
    let g = given_channels name so_far in
    let fresh = new_name (channels_shown channels) so_far (channels_shown (drop (n + 1) channels)) (channel_shown c) own (map_split channel_shown channels n c here) in
    subst (λ (cs : List Channel). IsUnderWay name cs [] w old new) (sym (map_more channel_shown channels n c here))
    (given_channel name so_far (channel_shown c) v w old mid new under (puts.given g under.stands refl refl fresh)
    (puts.makes g under.stands).done there (puts.causes.quiet (λ failed. cc)))
