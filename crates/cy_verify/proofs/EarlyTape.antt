-- How much of a tape stands before a played message.
use Rattle.std.proofs.Common.{ℕ, zero, suc, ◌+◌, ◌≡◌, ◌≢◌, ◌≤◌, ◌<◌, Bool, true, false, cond, not, is_some, refl, sym, ◌∙◌, ap, arith, List, [], ◌∷◌, length, take, filter, get_or}
use Rattle.std.proofs.lemmas.List.Filters.{length-filter_more}
use Rattle.cy_msg.specs.declared.token.Token.{Token}
use Rattle.wake_core.specs.declared.route.Route.{Route}
use Rattle.wake_core.specs.Run.{writes_from, played_of}
use Rattle.cy_verify.specs.private.Passes.{IsEarly}

-- Among more of a list no fewer pass a test.
pub rises : {X : Type 0} (p : X → Bool) (xs : List X) (m n : ℕ) → m ≤ n → length (filter p (take m xs)) ≤ length (filter p (take n xs))
rises p xs zero n l = omega arith
rises p [] (suc m) zero l = omega arith
rises p [] (suc m) (suc n) l = omega arith
rises p (x ∷ xs) (suc m) zero l = absurd (omega (arith, l))
rises p (x ∷ xs) (suc m) (suc n) l = go (rises p xs m n (omega (arith, l))) (p x)
  where
    go : length (filter p (take m xs)) ≤ length (filter p (take n xs)) → (b : Bool) → length (cond b (x ∷ filter p (take m xs)) (filter p (take m xs))) ≤ length (cond b (x ∷ filter p (take n xs)) (filter p (take n xs)))
    go h true = omega (arith, h)
    go h false = h

-- So many messages of the first ones were played, and no more than a number.
pub record IsCounted (routes : List Route) (after : ℕ) (tape : List Token) (place played : ℕ) : Type 0 where
  pub count : played ≡ length (played_of routes (take place tape))
  pub few : played ≤ after

module _ (routes : List Route) (after : ℕ) (tape : List Token) where
  pub count_none : IsCounted routes after tape 0 0
  count_none = record { count = refl; few = omega arith }

  more : (k : ℕ) (d : Token) (written : Bool) → k < length tape → written ≡ is_some (writes_from 0 routes (get_or tape k d).channel)
      → length (played_of routes (take (k + 1) tape)) ≡ length (played_of routes (take k tape)) + cond (not written) 1 0
  more k d written l is = length-filter_more (λ (t : Token). not (is_some (writes_from 0 routes t.channel))) tape k d l
      ∙ ap (λ b. length (played_of routes (take k tape)) + cond (not b) 1 0) (sym is)

  pub count_written : (k played : ℕ) (d : Token) → k < length tape → true ≡ is_some (writes_from 0 routes (get_or tape k d).channel) → IsCounted routes after tape k played → IsCounted routes after tape (k + 1) played
  count_written k played d l is h = record {
    count = let m = more k d true l is in omega (arith, m, h.count);
    few = h.few;
  }

  pub count_played : (k played : ℕ) (d : Token) → k < length tape → false ≡ is_some (writes_from 0 routes (get_or tape k d).channel) → played ≢ after → IsCounted routes after tape k played → IsCounted routes after tape (k + 1) (played + 1)
  count_played k played d l is other h = record {
    count = let m = more k d false l is in omega (arith, m, h.count);
    few = omega (arith, h.few, other);
  }

  pub ends_there : (k played : ℕ) (d : Token) → k < length tape → false ≡ is_some (writes_from 0 routes (get_or tape k d).channel) → played ≡ after → IsCounted routes after tape k played → IsEarly routes after tape k
  ends_there k played d l is all h = record {
    within = omega (arith, l);
    few = λ i e. let r = rises (λ (t : Token). not (is_some (writes_from 0 routes t.channel))) tape (i + 1) k (omega (arith, e)) in omega (arith, r, h.count, h.few);
    more = λ i e inside.
        let r = rises (λ (t : Token). not (is_some (writes_from 0 routes t.channel))) tape (k + 1) (i + 1) (omega (arith, e)) in
        let m = more k d false l is in
        omega (arith, r, m, h.count, all);
  }

  pub ends_last : (k played : ℕ) → k ≡ length tape → IsCounted routes after tape k played → IsEarly routes after tape (length tape)
  ends_last k played all h = record {
    within = omega arith;
    few = λ i e. let r = rises (λ (t : Token). not (is_some (writes_from 0 routes t.channel))) tape (i + 1) k (omega (arith, e, all)) in omega (arith, r, h.count, h.few);
    more = λ i e inside. absurd (omega (arith, e, inside));
  }
