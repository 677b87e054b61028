-- What calls put out, and what stands on a tape.
use Rattle.std.proofs.Common.{ℕ, zero, suc, ◌≡◌, ◌+◌, ◌<◌, ◌==◌, Bool, true, false, cond, List, [], ◌∷◌, length, take, slice_get, Option, Some, None, refl, sym, ap, subst, ◌∙◌, arith}
use Rattle.std.proofs.lemmas.Option.{same_Some, none-some}
use Rattle.std.specs.Prelude.{filter}
use Rattle.cy_msg.specs.Tokens.{on_channel}
use Rattle.cy_msg.specs.declared.token.Token.{Token}
use Rattle.cy_comp.specs.declared.call.Call.{Call}
use Rattle.cy_comp.specs.declared.call.Out.{Out}
use Rattle.cy_comp.specs.Calls.{outs, outs_after, numbered, output}

-- What holds of each message of a tape holds of each on a channel.
pub on_each : (P : Token → Type 0) (tape : List Token) → ((n : ℕ) (t : Token) → slice_get tape n ≡ Some t → P t) → (channel i : ℕ) (m : Token) → slice_get (on_channel channel tape) i ≡ Some m → P m
on_each P [] all channel i m at = absurd (none-some m at)
on_each P (t ∷ tape) all channel i m at = go (t.channel == channel) (on_each P tape (λ n. all (suc n)) channel) i at
  where
    go : (b : Bool) → ((j : ℕ) (m : Token) → slice_get (on_channel channel tape) j ≡ Some m → P m) → (i : ℕ) → slice_get (cond b (t ∷ on_channel channel tape) (on_channel channel tape)) i ≡ Some m → P m
    go true rest zero e = let same : t ≡ m = same_Some t m e in subst P same (all 0 t refl)
    go true rest (suc j) e = rest j m e
    go false rest j e = rest j m e

-- What stands among the first so many stands there.
pub taken_at : {X : Type 0} (k : ℕ) (xs : List X) (j : ℕ) (x : X) → slice_get (take k xs) j ≡ Some x → (j < k) × (slice_get xs j ≡ Some x)
taken_at zero xs j x e = absurd (none-some x e)
taken_at (suc k) [] j x e = absurd (none-some x e)
taken_at (suc k) (y ∷ xs) zero x e = (omega arith, e)
taken_at (suc k) (y ∷ xs) (suc j) x e = let h = taken_at k xs j x e in (omega (arith, h.0), h.1)

-- What calls put out is the output of one of them.
pub record Made (channel before : ℕ) (calls : List Call) (t : Token) : Type 0 where
  pub place : ℕ
  pub call : Call
  pub made : slice_get calls place ≡ Some call
  pub out : Out
  pub some : call.out ≡ Some out
  pub token : t ≡ output channel (before + length (outs_after channel before (take place calls)) + 1) out

made_by : (channel before : ℕ) (calls : List Call) (m : ℕ) (t : Token) → slice_get (outs_after channel before calls) m ≡ Some t → Made channel before calls t
made_by channel before [] m t e = absurd (none-some t e)
made_by channel before (x ∷ calls) m t e = by x.out refl (made_by channel before calls) (made_by channel (before + 1) calls) m e
  where
    later : (o : Option Out) → x.out ≡ o → (next : ℕ) → ((ys : List Call) → before + length (outs_after channel before (x ∷ ys)) ≡ next + length (outs_after channel next ys)) → Made channel next calls t
        → Made channel before (x ∷ calls) t
    later o is next count h = record {
      place = suc h.place;
      call = h.call;
      made = h.made;
      out = h.out;
      some = h.some;
      token = h.token ∙ ap (λ n. output channel (n + 1) h.out) (sym (count (take h.place calls)));
    }

    by : (o : Option Out) → x.out ≡ o → ((m : ℕ) (t : Token) → slice_get (outs_after channel before calls) m ≡ Some t → Made channel before calls t)
        → ((m : ℕ) (t : Token) → slice_get (outs_after channel (before + 1) calls) m ≡ Some t → Made channel (before + 1) calls t)
        → (m : ℕ) → slice_get (numbered channel before o (λ n. outs_after channel n calls)) m ≡ Some t → Made channel before (x ∷ calls) t
    by None is same more m e = later None is before (λ ys. ap (λ o. before + length (numbered channel before o (λ n. outs_after channel n ys))) is) (same m t e)
    by (Some o) is same more zero e = record {
      place = 0;
      call = x;
      made = refl;
      out = o;
      some = is;
      token = sym (same_Some (output channel (before + 1) o) t e) ∙ ap (λ n. output channel (n + 1) o) (omega arith);
    }
    by (Some o) is same more (suc m) e = later (Some o) is (before + 1)
        (λ ys. ap (λ o. before + length (numbered channel before o (λ n. outs_after channel n ys))) is ∙ omega arith) (more m t e)

pub outs_count : (channel : ℕ) (calls : List Call) → 0 + length (outs_after channel 0 calls) + 1 ≡ length (outs channel calls) + 1
unfolding outs
outs_count channel calls = omega arith

pub outs_made : (channel : ℕ) (calls : List Call) (m : ℕ) (t : Token) → slice_get (outs channel calls) m ≡ Some t → Made channel 0 calls t
unfolding outs
outs_made channel calls m t e = made_by channel 0 calls m t e

-- What passes a test is among those that pass.
pub passing : (p : Token → Bool) (tape : List Token) (i : ℕ) (t : Token) → slice_get tape i ≡ Some t → p t ≡ true → (k : ℕ) × (slice_get (filter p tape) k ≡ Some t)
passing p [] i t e is = absurd (none-some t e)
passing p (s ∷ tape) zero t e is = let same : s ≡ t = same_Some s t e in (0, ap (λ b. slice_get (cond b (s ∷ filter p tape) (filter p tape)) 0) (ap p same ∙ is) ∙ e)
passing p (s ∷ tape) (suc i) t e is = by (p s) (passing p tape i t e is)
  where
    by : (b : Bool) → (k : ℕ) × (slice_get (filter p tape) k ≡ Some t) → (k : ℕ) × (slice_get (cond b (s ∷ filter p tape) (filter p tape)) k ≡ Some t)
    by true h = (suc h.0, h.1)
    by false h = h
