-- Puts in a row: by these a function that puts piece by piece shows what it put in all.
use Rattle.std.proofs.Common.{◌≡◌, ℕ, suc, ◌+◌, ◌-◌, ◌^◌, ◌<◌, ◌≤◌, Bool, true, false, cond, leb, List, [], ◌∷◌, ◌++◌, length, get_or, take, drop, is_err, IsErrAnd, Some, None, Ok, Err, Result, sym, refl, ap, ◌∙◌, subst, ⊎_elim, append-nil, arith, length-append, take-append-drop, take_all, le-leb}
use borrow.Author.Tests.{lt-leb, true-leb, false-leb}
use Rattle.std.proofs.lemmas.List.{take_more}
use Rattle.std.proofs.lemmas.Result.{err_from_is_err_and}
use Rattle.std.proofs.lemmas.Bool.{cases_eq}
use Rattle.sink.specs.declared.fault.SinkFault.{SinkFault}
use Rattle.sink.specs.declared.fault.SinkFault.TheVariants.{Full}
use Rattle.sink.specs.Faults.{Refusal, full, refusal}
use Rattle.sink.specs.Meanings.{Meaning, run}
use Rattle.sink.specs.Puts.{Took, Put, due}
use Rattle.sink.proofs.Runs.{run_append, take-append}

-- full is due exactly if there is space for fewer
due_none : (s n : ℕ) → n ≤ s → None ≡ due s n
due_none s n h = ap (λ b. cond b None (Some full)) (sym (le-leb n s h))

due_full : (s n : ℕ) → s < n → Some full ≡ due s n
due_full s n h = ap (λ b. cond b None (Some full)) (sym (lt-leb n s h))

due_fits : (s n : ℕ) → None ≡ due s n → n ≤ s
due_fits s n e = go (leb n s) refl e
  where
    go : (b : Bool) → leb n s ≡ b → None ≡ cond b None (Some full) → n ≤ s
    go true f _ = true-leb n s (sym f)
    go false f c = let z : ◌≡◌ {A = ℕ} 0 1 = cc in omega arith

pub due_short : (s n : ℕ) (x : Refusal) → Some x ≡ due s n → s < n
due_short s n x e = go (leb n s) refl e
  where
    go : (b : Bool) → leb n s ≡ b → Some x ≡ cond b None (Some full) → s < n
    go true f c = let z : ◌≡◌ {A = ℕ} 0 1 = cc in omega arith
    go false f _ = false-leb n s (sym f)

-- after a bytes, b more get what a + b would have got at once
due_both : (s a b : ℕ) → a ≤ s → due (s - a) b ≡ due s (a + b)
due_both s a b h = ap (λ t. cond t None (Some full)) (go (leb b (s - a)) refl)
  where
    go : (t : Bool) → leb b (s - a) ≡ t → leb b (s - a) ≡ leb (a + b) s
    go true f = f ∙ sym (le-leb (a + b) s (omega (arith, true-leb b (s - a) (sym f))))
    go false f = f ∙ sym (lt-leb (a + b) s (omega (arith, false-leb b (s - a) (sym f))))

both_small : (a b n m : ℕ) → m ≡ n - a → (0 < a → n < 2 ^ 64) → (0 < b → m < 2 ^ 64) → 0 < a + b → n < 2 ^ 64
both_small a b n m e p q h =
    ⊎_elim (λ (z : a ≡ 0). let j : 0 < b = omega arith in let l = q j in omega arith) (λ (z : a ≡ 0 → ⊥). let j : 0 < a = omega arith in p j) (cases_eq a 0)

module _ {K : Type 0} {m : Meaning K} where
  -- `Ok` says that there was space for all
  pub put_fits : {k k' : K} {xs : List ℕ} {u : Unit {0}} → Put m k xs (Ok u) k' → length xs ≤ m.space k
  put_fits {k} {k'} {xs} p = due_fits (m.space k) (length xs) p.answers

  -- and full that there was space for fewer
  pub put_short : {k k' : K} {xs : List ℕ} → Put m k xs (Err Full) k' → m.space k < length xs
  put_short {k} {k'} {xs} p = due_short (m.space k) (length xs) full p.answers

  -- the state after all of them
  pub put_state : {k k' : K} {xs : List ℕ} {u : Unit {0}} → Put m k xs (Ok u) k' → m.state k' ≡ run m.rule (m.state k) xs
  put_state {k} {k'} {xs} p = p.goes ∙ ap (run m.rule (m.state k)) (take_all (m.space k) xs (put_fits p))

  -- bytes take space, so a loop that puts some in each turn ends
  pub put_less : {k k' : K} {xs : List ℕ} {u : Unit {0}} → 0 < length xs → Put m k xs (Ok u) k' → m.space k' < m.space k
  put_less h p = omega (arith, put_fits p, p.left)

  -- no bytes
  pub put_none : (k : K) → Put m k [] (Ok tt) k
  put_none k =
      record {
        answers = due_none (m.space k) 0 (omega arith);
        left = omega arith;
        goes = ap (run m.rule (m.state k)) (sym (take_all (m.space k) [] (omega arith)));
        stays = refl;
        small = λ h. omega arith;
      }

  -- some bytes, and then some more
  pub put_then : {k k' k'' : K} {xs ys : List ℕ} {u : Unit {0}} {r : Result Unit SinkFault} → Put m k xs (Ok u) k' → Put m k' ys r k'' → Put m k (xs ++ ys) r k''
  put_then {k} {k'} {k''} {xs} {ys} p q =
      let l = length-append xs ys in
      record {
        answers = q.answers ∙ ap (λ s. due s (length ys)) p.left ∙ due_both (m.space k) (length xs) (length ys) (put_fits p) ∙ ap (due (m.space k)) (sym l);
        left = omega (arith, l, p.left, q.left);
        goes =
            q.goes ∙ ap (λ s. run m.rule s (take (m.space k') ys)) p.goes ∙ ap (λ n. run m.rule (run m.rule (m.state k) (take (m.space k) xs)) (take n ys)) p.left
            ∙ sym (run_append m.rule (m.state k) (take (m.space k) xs) (take (m.space k - length xs) ys)) ∙ ap (run m.rule (m.state k)) (sym (take-append (m.space k) xs ys));
        stays = q.stays ∙ p.stays;
        small = λ h. both_small (length xs) (length ys) (m.space k) (m.space k') p.left p.small q.small (omega (arith, l));
      }

  -- some bytes did not all fit, and more were to follow
  pub put_stops : {k k' : K} {xs : List ℕ} {f : SinkFault} (ys : List ℕ) → Put m k xs (Err f) k' → Put m k (xs ++ ys) (Err f) k'
  put_stops {k} {k'} {xs} {f} ys p =
      let l = length-append xs ys in
      let h = due_short (m.space k) (length xs) (refusal f) p.answers in
      let z : 0 ≡ m.space k - length xs = omega (arith, h) in
      record {
        answers = p.answers ∙ sym (due_full (m.space k) (length xs) h) ∙ due_full (m.space k) (length (xs ++ ys)) (omega (arith, l, h));
        left = omega (arith, l, h, p.left);
        goes = p.goes ∙ ap (run m.rule (m.state k)) (sym (append-nil (take (m.space k) xs)) ∙ ap (λ n. take (m.space k) xs ++ take n ys) z ∙ sym (take-append (m.space k) xs ys));
        stays = p.stays;
        small = λ _. p.small (omega (arith, h));
      }

  -- at the exit of a `?`, by what its `from_residual` ensures
  pub put_exit : {k k' : K} {xs : List ℕ} {f : SinkFault} (r : Result Unit SinkFault) → (is_err r ≡ true) × IsErrAnd r (λ y. y ≡ f) → Put m k xs (Err f) k' → Put m k xs r k'
  put_exit {k} {k'} {xs} {f} r e p =
      let w = err_from_is_err_and r e.1 in
      subst (λ x. Put m k xs x k') (sym (w.1 ∙ ap (λ y. Err y) w.2)) p

  -- one byte, as a sink's own `put` tells it
  pub put_one : (k k' : K) (b : ℕ) → Took m k b k' → Put m k (b ∷ []) (Ok tt) k'
  put_one k k' b p =
      let e : suc (m.space k') ≡ m.space k = omega (arith, p.left) in
      record {
        answers = due_none (m.space k) 1 (omega (arith, p.left));
        left = omega (arith, p.left);
        goes = p.goes ∙ ap (λ (r : List ℕ). run m.rule (m.rule (m.state k) b) r) (sym (take_all (m.space k') [] (omega arith))) ∙ ap (λ n. run m.rule (m.state k) (take n (b ∷ []))) e;
        stays = p.stays;
        small = λ _. p.small;
      }

  -- or it was full
  pub put_full : (k k' : K) (b : ℕ) (f : SinkFault) → (refusal f ≡ full) × (m.space k ≡ 0) × (k' ≡ k) → Put m k (b ∷ []) (Err f) k'
  put_full k k' b f p =
      record {
        answers = ap (λ x. Some x) p.0 ∙ due_full (m.space k) 1 (omega (arith, p.1));
        left = ap m.space p.2 ∙ omega (arith, p.1);
        goes = ap m.state p.2 ∙ ap (λ n. run m.rule (m.state k) (take n (b ∷ []))) (sym p.1);
        stays = ap m.place p.2;
        small = λ _. omega (arith, p.1);
      }

  -- the bytes up to i, and then the one at i
  pub put_more : (k k' k'' : K) (xs : List ℕ) (i : ℕ) (r : Result Unit SinkFault) → i < length xs → Put m k (take i xs) (Ok tt) k' → Put m k' (get_or xs i 0 ∷ []) r k'' → Put m k (take (i + 1) xs) r k''
  put_more k k' k'' xs i r h p q = rw (take_more xs i 0 h) (put_then p q)

  -- the bytes up to i are all
  pub put_whole : (k k' : K) (xs : List ℕ) (i : ℕ) (r : Result Unit SinkFault) → length xs ≤ i → Put m k (take i xs) r k' → Put m k xs r k'
  put_whole k k' xs i r h p = rw (take_all i xs h) at p

  -- it stopped among the bytes up to i
  pub put_part : (k k' : K) (xs : List ℕ) (i : ℕ) (f : SinkFault) → Put m k (take i xs) (Err f) k' → Put m k xs (Err f) k'
  put_part k k' xs i f p = rw (take-append-drop i xs) at (put_stops (drop i xs) p)
