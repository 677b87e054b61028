-- What a call comes to that puts no channel, and what it leaves of the writer.
use Rattle.std.proofs.Common.{◌≡◌, ℕ, ◌<◌, ◌≤◌, List, [], ◌∷◌, length, Result, Ok, Err, Option, Some, None, IsErrOf, refl, sym, ap, subst, ◌∙◌, arith}
use Rattle.std.specs.Prelude.{IfSome, OnOk}
use Rattle.cy_store.specs.Files.{Holds}
use Rattle.cy_store.specs.Write.{Write, Put}
use Rattle.std.proofs.lemmas.Option.{none-some}
use Rattle.cy_store.specs.Store.{StoreView}
use Rattle.cy_section.specs.declared.types.Channel.{Channel}
use Rattle.cy_section.specs.declared.types.SectionKind.TheVariants as kind
use Rattle.cy_section.specs.Section.{section, channel_body}
use Rattle.cy_writer.specs.declared.error.WriteError.{WriteError}
use Rattle.cy_writer.specs.declared.error.WriteError.TheVariants as write_error
use Rattle.cy_writer.specs.declared.writer.RecordWriter.{RecordWriter}
use Rattle.cy_writer.specs.declared.writing.Writing.{Writing}
use Rattle.cy_writer.specs.Calls.{PutsChannel, GoesOn}
use Rattle.cy_writer.specs.Given.{Given, channel_puts, front_of}
use Rattle.cy_writer.specs.Stands.{IsHeld, IsThere, StandsFor}
use Rattle.cy_writer.specs.private.Whole.{StaysWhole}
use Rattle.cy_writer.specs.Writes.{Makes, PutsInto, puts_into}
use Rattle.cy_writer.proofs.Puts.{causes_none, causes_same, makes_none, makes_same}

-- no channel is put
pub puts_nothing : {T : Type 0} (was is : Given → Type 0) (c : Channel) (old : StoreView) (e : WriteError) → (e ≡ write_error.Failed → ⊥)
    → ((g : Given) → was g → is g) → (let r : Result T WriteError = Err e in PutsChannel was is c old old r)
puts_nothing {T = T} was is c old e unfailed same =
    let r : Result T WriteError = Err e in
    record {
      given = λ g held closed gathered fresh. tt;
      memory = λ g held e. (same g held, refl);
      makes = λ g held. makes_none r (puts_into g.name (channel_puts g c)) old tt (λ f. unfailed (the_same e f));
      left = λ g held closed gathered left. tt;
      causes = causes_none old (λ f. unfailed (the_same e f));
    }
  where
    the_same : (e : WriteError) → (let r : Result T WriteError = Err e in IsErrOf r write_error.Failed) → e ≡ write_error.Failed
    the_same e f = cc

-- nor without memory
pub puts_without_memory : {T : Type 0} (was is : Given → Type 0) (c : Channel) (old : StoreView) (r : Result T WriteError) (e : WriteError)
    → r ≡ Err e → e ≡ write_error.Memory → ((g : Given) → was g → is g) → PutsChannel was is c old old r
puts_without_memory was is c old r e known memory same = rw known (puts_nothing was is c old e (λ f. cc) same)

-- a writer that may go on
pub stays_without_memory : {T : Type 0} (o p : Writing) (new : StoreView) (r : Result T WriteError) (e : WriteError) → r ≡ Err e → e ≡ write_error.Memory
    → IsHeld p new.files → p.channels.items ≡ o.channels.items → StaysWhole o p new r
stays_without_memory o p new r e known memory held channels = record {
  held = λ unfailed. held;
  channels = omega (arith, ap length channels);
  unbroken = λ broken. cc;
}

pub goes_on_without_memory : {T : Type 0} (w : RecordWriter) (o : Writing) (old : StoreView) (r : Result T WriteError) (e : WriteError) → r ≡ Err e → e ≡ write_error.Memory
    → w.writing ≡ Some o → IsThere w old.files → GoesOn w record { writing = Some o } old old r
goes_on_without_memory w o old r e known memory is there = record {
  there = subst (λ (x : Option Writing). IfSome x (λ o. IsHeld o old.files)) is there;
  channels = λ n has. subst (λ (x : Option Writing). IfSome x (λ o. n < length o.channels.items)) is has;
  breaks = λ failed. absurd (not_failed failed);
  stays_broken = λ broken. sym is ∙ broken;
  stays_whole = λ broken unfailed. is ∙ broken;
  refused = record {
    broken = λ broken. absurd (not_broken broken);
    refuses = λ broken. absurd (none-some o (sym broken ∙ is));
    untouched = λ broken. refl;
  };
}
  where
    not_failed : IsErrOf r write_error.Failed → ⊥
    not_failed failed = cc

    not_broken : IsErrOf r write_error.Broken → ⊥
    not_broken broken = cc

-- a broken writer
pub refuses_channel : {T : Type 0} (was : Given → Type 0) (c : Channel) (old : StoreView)
    → (let r : Result T WriteError = Err write_error.Broken in PutsChannel was was c old old r)
refuses_channel was c old = puts_nothing was was c old write_error.Broken (λ f. cc) (λ g held. held)

pub stays_broken : {T : Type 0} (w : RecordWriter) (old : StoreView) → w.writing ≡ None → IsThere w old.files
    → (let r : Result T WriteError = Err write_error.Broken in GoesOn w w old old r)
stays_broken w old is there = record {
  there = there;
  channels = λ n has. has;
  breaks = λ failed. cc;
  stays_broken = λ broken. broken;
  stays_whole = λ broken unfailed. broken;
  refused = record { broken = λ broken. is; refuses = λ broken. refl; untouched = λ broken. refl };
}

-- What a call that puts hands on.

pub handed_on : {T U : Type 0} (b : Result T WriteError) (r : Result U WriteError) (e d x : WriteError) → b ≡ Err d → r ≡ Err e → e ≡ d → IsErrOf r x → IsErrOf b x
handed_on b r e d x of_b of_r same is = cc

pub handed_back : {T U : Type 0} (b : Result T WriteError) (r : Result U WriteError) (e d x : WriteError) → b ≡ Err d → r ≡ Err e → e ≡ d → IsErrOf b x → IsErrOf r x
handed_back b r e d x of_b of_r same is = cc

pub known_ok : {T : Type 0} (b : Result T WriteError) (t : T) (ws : List Write) (old new : StoreView) → b ≡ Ok t → Makes ws old new b
    → (let r : Result T WriteError = Ok t in Makes ws old new r)
known_ok {T = T} b t ws old new is made = subst (λ (r : Result T WriteError). Makes ws old new r) is made

-- the section of a channel, put behind what was put
pub puts_section : {T : Type 0} (b : Result T WriteError) (o : Writing) (g : Given) (c : Channel) (name bytes : List ℕ) (old new : StoreView) → StandsFor o g
    → name ≡ o.name → bytes ≡ section kind.Channel (channel_body c) → Makes (Put name o.place bytes ∷ []) old new b
    → Makes (puts_into g.name (channel_puts g c)) old new b
puts_section b o g c name bytes old new held named is made =
    let W : List ℕ → ℕ → List ℕ → List Write = λ n at s. Put n at s ∷ [] in
    let same : W name o.place bytes ≡ puts_into g.name (channel_puts g c) =
    ap (λ (n : List ℕ). W n o.place bytes) (named ∙ held.name)
    ∙ ap (λ (at : ℕ). W g.name at bytes) held.place
    ∙ ap (W g.name (length (front_of g))) is in
    subst (λ (ws : List Write). Makes ws old new b) same made

-- the put failed, or wanted memory
pub channel_unput : {T U : Type 0} (b : Result T WriteError) (r : Result U WriteError) (e d : WriteError) (o p : Writing) (c : Channel) (name bytes : List ℕ) (end : ℕ) (old new : StoreView)
    → b ≡ Err d → r ≡ Err e → e ≡ d → ((g : Given) → StandsFor o g → StandsFor p g) → name ≡ o.name → bytes ≡ section kind.Channel (channel_body c)
    → PutsInto name (Put name o.place bytes ∷ []) end (λ files. files ≡ old.files) old new b
    → PutsChannel (StandsFor o) (StandsFor p) c old new r
channel_unput {U = U} b r e d o p c name bytes end old new of_b of_r same stands named is puts = record {
  given = λ g held closed gathered fresh. no_ok _;
  memory = λ g held memory. (stands g held, puts.memory (handed_on b r e d write_error.Memory of_b of_r same memory));
  makes = λ g held. makes_same b r (puts_into g.name (channel_puts g c)) old new (puts_section b o g c name bytes old new held named is puts.makes)
      (no_ok ⊥) (λ x h. handed_on b r e d x of_b of_r same h);
  left = λ g held closed gathered left. no_ok _;
  causes = causes_same old new puts.causes (λ f. handed_on b r e d write_error.Failed of_b of_r same f) (λ f. handed_back b r e d write_error.Failed of_b of_r same f);
}
  where
    no_ok : (P : Type 0) → OnOk r P
    no_ok P = subst (λ (a : Result U WriteError). OnOk a P) (sym of_r) tt

pub stays_unput : {T U : Type 0} (b : Result T WriteError) (r : Result U WriteError) (e d : WriteError) (o p : Writing) (name : List ℕ) (old new : StoreView)
    → b ≡ Err d → r ≡ Err e → e ≡ d → name ≡ p.name → p.channels.items ≡ o.channels.items → IsHeld p old.files
    → ((n : ℕ) → Holds old.files name (λ bytes. n ≤ length bytes) → (IsErrOf b write_error.Failed → ⊥) → Holds new.files name (λ bytes. n ≤ length bytes))
    → (IsErrOf b write_error.Broken → ⊥) → StaysWhole o p new r
stays_unput b r e d o p name old new of_b of_r same named channels held kept unbroken = record {
  held = λ unfailed. subst (λ (n : List ℕ). Holds new.files n (λ bytes. p.place ≤ length bytes)) named
      (kept p.place (subst (λ (n : List ℕ). Holds old.files n (λ bytes. p.place ≤ length bytes)) (sym named) held)
      (λ f. unfailed (handed_back b r e d write_error.Failed of_b of_r same f)));
  channels = omega (arith, ap length channels);
  unbroken = λ broken. unbroken (handed_on b r e d write_error.Broken of_b of_r same broken);
}
