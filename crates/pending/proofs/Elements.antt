-- An element set by a follow-up: its index is there already.
use Rattle.std.proofs.Common.{◌≡◌, ℕ, suc, ◌+◌, ◌<◌, ◌≤◌, true, false, cond, List, ◌∷◌, length, is_some, decimal, sym, refl, ap, ◌∙◌, subst, ⊎_elim, arith}
use Rattle.std.proofs.lemmas.Bool.{cases_eq, or_left, or_right, or_from, cond-true, cond-false}
use Rattle.dump.specs.Heaps.{Text, Value, index, Part, element}
use Rattle.numeral.specs.Digits.{index_of}
use Rattle.numeral.specs.Words.{same_units}
use Rattle.planner.specs.Lates.{sets, Late}
use Rattle.evaluator.specs.Stores.{Val, undefined, Slot, keyed, has_key, set_key}
use Rattle.evaluator.specs.Isomorphic.{Pairing, Alike}
use Rattle.rebuilds.specs.Pending.{Waits, Elements, e_end, e_hole, e_same, e_waits}
use Rattle.pending.proofs.KeyTexts.{units_apart, units_same, name_index, decimals_apart}
use Rattle.pending.proofs.Lates.{ElementAt, at_first, at_next}

module _ (own : Pairing) (o : ℕ) where
  -- other follow-ups to come
  pub elements_waits : {ls ls' : List Late} {i : ℕ} {ps : List Part} {ss : List Slot} → ((j : ℕ) (v : Value) → Waits o ls (sets (index j) v) → Waits o ls' (sets (index j) v)) →
      Elements own o ls i ps ss → Elements own o ls' i ps ss
  elements_waits f e_end = e_end
  elements_waits f (e_hole r) = e_hole (elements_waits f r)
  elements_waits f (e_same a r) = e_same a (elements_waits f r)
  elements_waits f (e_waits {i = i} {v = v} u r) = e_waits (f i v u) (elements_waits f r)

  -- a name that is no index is not among their keys
  pub elements_lack : {ls : List Late} {i : ℕ} {ps : List Part} {ss : List Slot} (t : Text) → is_some (index_of t) ≡ false → i + length ps ≤ 4294967295 → Elements own o ls i ps ss → has_key t ss ≡ false
  elements_lack t n l e_end = refl
  elements_lack t n l (e_hole r) = elements_lack t n (omega arith) r
  elements_lack t n l (e_same {i = i} {ss = ss} a r) =
      or_from (same_units t (decimal i)) (has_key t ss) (units_apart t (decimal i) (name_index t i n (omega arith))) (elements_lack t n (omega arith) r)
  elements_lack t n l (e_waits {i = i} {ss = ss} u r) =
      or_from (same_units t (decimal i)) (has_key t ss) (units_apart t (decimal i) (name_index t i n (omega arith))) (elements_lack t n (omega arith) r)

  -- an index whose element is no hole is
  pub has_element : {ls : List Late} {i j : ℕ} {v : Value} {ps : List Part} {ss : List Slot} (w : Val) → Alike own v w → ElementAt i ps j v → Elements own o ls i ps ss → has_key (decimal j) ss ≡ true
  has_element w a at_first (e_hole r) = absurd a
  has_element {j = j} w a at_first (e_same {ss = ss} b r) = or_left (same_units (decimal j) (decimal j)) (has_key (decimal j) ss) (units_same (decimal j) (decimal j) refl)
  has_element {j = j} w a at_first (e_waits {ss = ss} u r) = or_left (same_units (decimal j) (decimal j)) (has_key (decimal j) ss) (units_same (decimal j) (decimal j) refl)
  has_element w a (at_next e) (e_hole r) = has_element w a e r
  has_element {j = j} w a (at_next e) (e_same {i = i} {ss = ss} b r) = or_right (same_units (decimal j) (decimal i)) (has_key (decimal j) ss) (has_element w a e r)
  has_element {j = j} w a (at_next e) (e_waits {i = i} {ss = ss} u r) = or_right (same_units (decimal j) (decimal i)) (has_key (decimal j) ss) (has_element w a e r)

  module _ (ls ls' : List Late) (j : ℕ) (w : Val) (small : j < 4294967296) where
    set_head : (i : ℕ) (v : Value) (old : Val) (ps : List Part) (ss : List Slot) → i < 4294967296 → (i ≡ j → Alike own v w) →
        ((i ≡ j → ⊥) → Elements own o ls' i (element v ∷ ps) (keyed (decimal i) old ∷ ss)) → Elements own o ls' (suc i) ps ss →
        Elements own o ls' i (element v ∷ ps) (cond (same_units (decimal j) (decimal i)) (keyed (decimal j) w) (keyed (decimal i) old) ∷ ss)
    set_head i v old ps ss l new kept r =
        ⊎_elim
        (λ (e : i ≡ j). subst (λ z. Elements own o ls' i (element v ∷ ps) (z ∷ ss))
        (ap (λ z. keyed (decimal z) w) e ∙ sym (cond-true (same_units (decimal j) (decimal i)) (keyed (decimal j) w) (keyed (decimal i) old) (units_same (decimal j) (decimal i) (ap decimal (sym e)))))
        (e_same (new e) r))
        (λ (n : i ≡ j → ⊥). subst (λ z. Elements own o ls' i (element v ∷ ps) (z ∷ ss))
        (sym (cond-false (same_units (decimal j) (decimal i)) (keyed (decimal j) w) (keyed (decimal i) old) (units_apart (decimal j) (decimal i) (λ e. decimals_apart i j l small n (sym e)))))
        (kept n))
        (cases_eq i j)

    -- an index set where it stands
    pub set_elements : {i : ℕ} {ps : List Part} {ss : List Slot} → i + length ps ≤ 4294967296 → ((v : Value) → ElementAt i ps j v → Alike own v w) →
        ((m : ℕ) (v : Value) → (m ≡ j → ⊥) → Waits o ls (sets (index m) v) → Waits o ls' (sets (index m) v)) → Elements own o ls i ps ss → Elements own o ls' i ps (set_key (decimal j) w ss)
    set_elements l new kept e_end = e_end
    set_elements l new kept (e_hole r) = e_hole (set_elements (omega arith) (λ v e. new v (at_next e)) kept r)
    set_elements l new kept (e_same {i = i} {v = v} {w = old} {ps = ps} {ss = ss} a r) =
        let ih = set_elements (omega arith) (λ v e. new v (at_next e)) kept r in
        set_head i v old ps (set_key (decimal j) w ss) (omega arith) (λ e. new v (subst (λ m. ElementAt i (element v ∷ ps) m v) e at_first)) (λ n. e_same a ih) ih
    set_elements l new kept (e_waits {i = i} {v = v} {ps = ps} {ss = ss} u r) =
        let ih = set_elements (omega arith) (λ v e. new v (at_next e)) kept r in
        set_head i v undefined ps (set_key (decimal j) w ss) (omega arith) (λ e. new v (subst (λ m. ElementAt i (element v ∷ ps) m v) e at_first)) (λ n. e_waits (kept i v n u) ih) ih
