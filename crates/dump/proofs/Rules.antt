-- The first record that is refused, and tests below a number.
use Rattle.std.proofs.Common.{◌≡◌, ℕ, zero, suc, ◌+◌, ◌<◌, Bool, true, false, cond, ◌||◌, List, [], ◌∷◌, map, is_ok, Ok, Err, Result, refl, sym, ap, ◌∙◌, subst, ⊎_elim, add-one, arith}
use Rattle.std.specs.List.{range_with_len, list_any, sum}
use Rattle.std.proofs.lemmas.List.FromFn.{sum_by-map-range_with_len_more}
use Rattle.std.proofs.lemmas.Bool.{cases_eq, both_ways}
use Rattle.dump.specs.declared.refusal.Refusal.{Refusal}
use Rattle.dump.specs.Rules.{Verdict, Rule, rule, judge, Hold, and_then, each, any_below}

module _ (f : ℕ → Verdict) where
  pub each_more : (i : ℕ) → each f i ≡ Ok tt → f i ≡ Ok tt → each f (i + 1) ≡ Ok tt
  each_more i h e = rw (add-one, h) e

  pub each_stop : (i n : ℕ) (e : Refusal) → each f i ≡ Ok tt → f i ≡ Err e → i < n → each f n ≡ Err e
  each_stop i zero e h r l = absurd (omega arith)
  each_stop i (suc n) e h r l =
      ⊎_elim
      (λ (same : i ≡ n). rw (← same, h) r)
      (λ (apart : i ≡ n → ⊥). rw (each_stop i n e h r (omega arith)) refl)
      (cases_eq i n)

-- a record passes exactly if every rule holds
pub judge_holds : (s i : ℕ) (rules : List Rule) → is_ok (judge s i rules) ≡ true → Hold rules
judge_holds s i [] h = tt
judge_holds s i (rule k true ∷ rules) h = (refl, judge_holds s i rules h)
judge_holds s i (rule k false ∷ rules) h = absurd (both_ways _ refl h)

pub judge_passes : (s i : ℕ) (rules : List Rule) → Hold rules → is_ok (judge s i rules) ≡ true
judge_passes s i [] h = refl
judge_passes s i (rule k true ∷ rules) h = judge_passes s i rules h.1
judge_passes s i (rule k false ∷ rules) h = absurd (both_ways _ refl h.0)

-- of two verdicts in a row that pass, each passes
pub then_parts : {A : Type 0} (x : Verdict) (y : Result A Refusal) → is_ok (and_then x (λ _. y)) ≡ true → (is_ok x ≡ true) × (is_ok y ≡ true)
then_parts (Ok u) y h = (refl, h)
then_parts (Err e) y h = absurd (let z : ◌≡◌ {A = ℕ} 0 1 = cc in omega arith)

pub then_from : {A : Type 0} (x : Verdict) (y : Result A Refusal) → is_ok x ≡ true → is_ok y ≡ true → is_ok (and_then x (λ _. y)) ≡ true
then_from (Ok u) y h g = g
then_from (Err e) y h g = absurd (let z : ◌≡◌ {A = ℕ} 0 1 = cc in omega arith)

-- of records that pass each passes
module _ (f : ℕ → Verdict) where
  pub row_passes : (n i : ℕ) → is_ok (each f n) ≡ true → i < n → is_ok (f i) ≡ true
  row_passes zero i h l = absurd (omega arith)
  row_passes (suc n) i h l =
      ⊎_elim
      (λ (same : i ≡ n). rw same (then_parts (each f n) (f n) h).1)
      (λ (apart : i ≡ n → ⊥). row_passes n i (then_parts (each f n) (f n) h).0 (omega arith))
      (cases_eq i n)

  pub rows_pass : (n : ℕ) → ((i : ℕ) → i < n → is_ok (f i) ≡ true) → is_ok (each f n) ≡ true
  rows_pass zero h = refl
  rows_pass (suc n) h = then_from (each f n) (f n) (rows_pass n (λ i l. h i (omega arith))) (h n (omega arith))

-- below n none passes
module _ (p : ℕ → Bool) where
  pub any_none : (i : ℕ) → any_below p i ≡ false → p i ≡ false → any_below p (i + 1) ≡ false
  any_none i h e = rw (add-one, h) e

  pub any_found : (i n : ℕ) → any_below p i ≡ false → p i ≡ true → i < n → any_below p n ≡ true
  any_found i zero h r l = absurd (omega arith)
  any_found i (suc n) h r l =
      ⊎_elim
      (λ (same : i ≡ n). rw (← same, h) r)
      (λ (apart : i ≡ n → ⊥). rw (any_found i n h r (omega arith)) refl)
      (cases_eq i n)

  pub none_passes : (n k : ℕ) → any_below p n ≡ false → k < n → p k ≡ false
  none_passes zero k h l = absurd (omega arith)
  none_passes (suc n) k h l =
      let e : (any_below p n ≡ false) × (p n ≡ false) = grind arith in
      ⊎_elim (λ (same : k ≡ n). rw same e.1) (λ (apart : k ≡ n → ⊥). none_passes n k e.0 (omega arith)) (cases_eq k n)

-- the tests below n, as a test of the numbers below n
any_last : (p : ℕ → Bool) (a n : ℕ) → list_any p (range_with_len a (suc n)) ≡ (list_any p (range_with_len a n) || p (a + n))
any_last p a zero = let e : a + 0 ≡ a = omega arith in rw e (or_none (p a))
  where
    or_none : (x : Bool) → ◌≡◌ {A = Bool} (x || false) (false || x)
    or_none true = refl
    or_none false = refl
any_last p a (suc n) =
    let e : a + suc n ≡ a + 1 + n = omega arith in
    rw (any_last p (a + 1) n, e) (or_more (p a) (list_any p (range_with_len (a + 1) n)) (p (a + 1 + n)))
  where
    or_more : (x y z : Bool) → ◌≡◌ {A = Bool} (x || (y || z)) ((x || y) || z)
    or_more true y z = refl
    or_more false y z = refl

pub any_in_range : (p : ℕ → Bool) (n : ℕ) → list_any p (range_with_len 0 n) ≡ any_below p n
any_in_range p zero = refl
any_in_range p (suc n) = let e : 0 + n ≡ n = omega arith in any_last p 0 n ∙ rw (any_in_range p n, e) (or_cond (any_below p n) (p n))
  where
    or_cond : (x y : Bool) → ◌≡◌ {A = Bool} (x || y) (cond x true y)
    or_cond true y = refl
    or_cond false y = refl

next : (n : ℕ) → ◌≡◌ {A = ℕ} (suc n) (n + 1)
next n = omega arith

-- what is added up place by place is the sum of the numbers below n
pub sum_in_range : (f g : ℕ → ℕ) → g 0 ≡ 0 → ((i : ℕ) → g (i + 1) ≡ g i + f i) → (n : ℕ) → sum (map f (range_with_len 0 n)) ≡ g n
sum_in_range f g none more zero = sym none
sum_in_range f g none more (suc n) =
    subst (λ m. sum (map f (range_with_len 0 m)) ≡ g m) (sym (next n))
    (sum_by-map-range_with_len_more (λ x. x) f 0 n n (omega arith) ∙ ap (λ k. k + f n) (sum_in_range f g none more n) ∙ sym (more n))
