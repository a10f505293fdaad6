-- The numerals of a checked dump are lawful.
use Rattle.std.proofs.Common.{◌≡◌, ℕ, true, false, cond, eqb, ◌⊎◌, List, [], ◌∷◌, Some, sym, ◌∙◌, refl, inl, inr, ⊎_elim, arith}
use Rattle.std.specs.List.{AllByRecursion}
use Rattle.std.proofs.lemmas.Bool.{eqb-true}
use Rattle.dump.specs.Heaps.{Numeral}
use Rattle.numeral.specs.Numerals.{is_pair}
use Rattle.formed.specs.Formed.{Pairwise}
use Rattle.heap_check.specs.declared.checked.Checked.{Checked}
use Rattle.heap_check.specs.Heaps.{model}
use Rattle.heap_check.proofs.Kept.{formed}
use Rattle.speller.specs.Spelling.{Distinct, Shaped}
use Rattle.table.specs.Tables.{numeral_in}

-- the first numeral, or one behind it
pub either : (n : Numeral) (ns : List Numeral) (bits : ℕ) (t : List ℕ) → numeral_in (n ∷ ns) bits ≡ Some t → ((n.bits ≡ bits) × (n.digits ≡ t)) ⊎ (numeral_in ns bits ≡ Some t)
either n ns bits t h =
    elim (eqb n.bits bits) as (λ x. eqb n.bits bits ≡ x → cond x (Some n.digits) (numeral_in ns bits) ≡ Some t → ((n.bits ≡ bits) × (n.digits ≡ t)) ⊎ (numeral_in ns bits ≡ Some t))
    [ true ↦ λ e g. inl (eqb-true n.bits bits e, cc) | false ↦ λ _ g. inr g ]
    refl h

pub shaped : (ns : List Numeral) → AllByRecursion (λ n. is_pair n.bits n.digits ≡ true) ns → Shaped (numeral_in ns)
shaped [] all bits t h = absurd (let z : ◌≡◌ {A = ℕ} 0 1 = cc in omega arith)
shaped (n ∷ ns) all bits t h =
    ⊎_elim
    (λ (e : (n.bits ≡ bits) × (n.digits ≡ t)). let p : is_pair n.bits n.digits ≡ is_pair bits t = λ i. is_pair (e.0 i) (e.1 i) in sym p ∙ all.0)
    (λ (e : numeral_in ns bits ≡ Some t). shaped ns all.1 bits t e)
    (either n ns bits t h)

-- two numerals with other bits and other digits
abbrev pub Apart : Numeral → Numeral → Type 0
Apart m n = (m.bits ≡ n.bits → ⊥) × (m.digits ≡ n.digits → ⊥)

pub absent : (m : Numeral) (ns : List Numeral) (bits : ℕ) (t : List ℕ) → AllByRecursion (Apart m) ns → m.digits ≡ t → numeral_in ns bits ≡ Some t → ⊥
absent m [] bits t all d h = let z : ◌≡◌ {A = ℕ} 0 1 = cc in omega arith
absent m (n ∷ ns) bits t all d h =
    ⊎_elim
    (λ (e : (n.bits ≡ bits) × (n.digits ≡ t)). all.0.1 (d ∙ sym e.1))
    (λ (e : numeral_in ns bits ≡ Some t). absent m ns bits t all.1 d e)
    (either n ns bits t h)

pub distinct : (ns : List Numeral) → Pairwise Apart ns → Distinct (numeral_in ns)
distinct [] all a b t h g = absurd (let z : ◌≡◌ {A = ℕ} 0 1 = cc in omega arith)
distinct (n ∷ ns) all a b t h g =
    ⊎_elim
    (λ (e : (n.bits ≡ a) × (n.digits ≡ t)).
    ⊎_elim
    (λ (f : (n.bits ≡ b) × (n.digits ≡ t)). sym e.0 ∙ f.0)
    (λ (f : numeral_in ns b ≡ Some t). absurd (absent n ns b t all.0 e.1 f))
    (either n ns b t g))
    (λ (e : numeral_in ns a ≡ Some t).
    ⊎_elim
    (λ (f : (n.bits ≡ b) × (n.digits ≡ t)). absurd (absent n ns a t all.0 f.1 e))
    (λ (f : numeral_in ns b ≡ Some t). distinct ns all.1 a b t e f)
    (either n ns b t g))
    (either n ns a t h)

pub rows_distinct : (h : Checked) → Distinct (numeral_in (model h).numerals)
rows_distinct h = distinct (model h).numerals (formed h).numerals.1

pub rows_shaped : (h : Checked) → Shaped (numeral_in (model h).numerals)
rows_shaped h = shaped (model h).numerals (formed h).numerals.0
