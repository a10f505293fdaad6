-- A dump's numerals are a lawful speller with its inverse, so the main statement holds of every accepted dump by itself.
use Rattle.std.proofs.Common.{◌≡◌, ℕ, Bool, true, false, cond, eqb, ◌⊎◌, List, [], ◌∷◌, Some, sym, refl, ap, ◌∙◌, inl, inr, ⊎_elim, eq-eqb, ne_eqb}
use Rattle.std.specs.List.{AllByRecursion as All}
use Rattle.std.proofs.lemmas.Bool.{cases_Bool, cond-true, cond-false}
use Rattle.dump.specs.Heaps.{Numeral}
use Rattle.numeral.specs.Words.{same_units}
use Rattle.formed.specs.Formed as formed
use Rattle.formed.specs.Formed.{Pairwise}
use Rattle.faithful.proofs.Short.{bounded}
use Rattle.speller.specs.Spelling.{Lawful}
use Rattle.effects.proofs.Options.{none_some, some_is}
use Rattle.numeral.proofs.Laws.{same_units_lem}
use Rattle.table.specs.Tables.{numeral_in}
use Rattle.table.specs.Readings.{reading_in}
use Rattle.table.proofs.Laws.{Apart, either, absent, shaped, distinct}
use Rattle.traces.specs.Theorem.{Inverse}
use Rattle.faithful.specs.Dumps.{OwnNumeralsFaithful}
use Rattle.faithful.proofs.Main.{faithful}

-- the first numeral of a list, or one behind it
read : (n : Numeral) (ns : List Numeral) (bits : ℕ) (t : List ℕ) → reading_in (n ∷ ns) t ≡ Some bits → ((t ≡ n.digits) × (n.bits ≡ bits)) ⊎ (reading_in ns t ≡ Some bits)
read n ns bits t e = go (same_units t n.digits) refl e
  where
    go : (b : Bool) → same_units t n.digits ≡ b → cond b (Some n.bits) (reading_in ns t) ≡ Some bits → ((t ≡ n.digits) × (n.bits ≡ bits)) ⊎ (reading_in ns t ≡ Some bits)
    go true q d = inl ((same_units_lem t n.digits).0 q, some_is d)
    go false q d = inr d

-- what stands behind a numeral has other bits
other_bits : (m : Numeral) (ns : List Numeral) → All (Apart m) ns → (bits : ℕ) (t : List ℕ) → reading_in ns t ≡ Some bits → m.bits ≡ bits → ⊥
other_bits m [] a bits t e d = none_some e
other_bits m (n ∷ ns) a bits t e d = ⊎_elim (λ (q : (t ≡ n.digits) × (n.bits ≡ bits)). a.0.0 (d ∙ sym q.1)) (λ (q : reading_in ns t ≡ Some bits). other_bits m ns a.1 bits t q d) (read n ns bits t e)

there : (ns : List Numeral) → Pairwise Apart ns → (bits : ℕ) (t : List ℕ) → numeral_in ns bits ≡ Some t → reading_in ns t ≡ Some bits
there [] a bits t e = absurd (none_some e)
there (n ∷ ns) a bits t e = ⊎_elim
    (λ (q : (n.bits ≡ bits) × (n.digits ≡ t)). cond-true (same_units t n.digits) (Some n.bits) (reading_in ns t) ((same_units_lem t n.digits).1 (sym q.1)) ∙ ap Some q.0)
    (λ (q : numeral_in ns bits ≡ Some t).
    cond-false (same_units t n.digits) (Some n.bits) (reading_in ns t) (apart q) ∙ there ns a.1 bits t q)
    (either n ns bits t e)
  where
    apart : numeral_in ns bits ≡ Some t → same_units t n.digits ≡ false
    apart q = ⊎_elim (λ (u : same_units t n.digits ≡ true). absurd (absent n ns bits t a.0 (sym ((same_units_lem t n.digits).0 u)) q)) (λ u. u) (cases_Bool (same_units t n.digits))

back : (ns : List Numeral) → Pairwise Apart ns → (bits : ℕ) (t : List ℕ) → reading_in ns t ≡ Some bits → numeral_in ns bits ≡ Some t
back [] a bits t e = absurd (none_some e)
back (n ∷ ns) a bits t e = ⊎_elim
    (λ (q : (t ≡ n.digits) × (n.bits ≡ bits)). cond-true (eqb n.bits bits) (Some n.digits) (numeral_in ns bits) (eq-eqb n.bits bits q.1) ∙ ap Some (sym q.0))
    (λ (q : reading_in ns t ≡ Some bits). cond-false (eqb n.bits bits) (Some n.digits) (numeral_in ns bits) (ne_eqb n.bits bits (other_bits n ns a.0 bits t q)) ∙ back ns a.1 bits t q)
    (read n ns bits t e)

pub inverse : (ns : List Numeral) → formed.Lawful ns → Inverse (numeral_in ns) (reading_in ns)
inverse ns l = (there ns l.1, back ns l.1)

pub lawful : (ns : List Numeral) → formed.Lawful ns → Lawful (numeral_in ns)
lawful ns l = record { distinct = distinct ns l.1; shaped = shaped ns l.0 }

pub own_numerals_faithful : OwnNumeralsFaithful
own_numerals_faithful b h f p bytes v e =
    let w = bounded b h bytes v in
    faithful h (numeral_in h.numerals) (reading_in h.numerals) f p w (lawful h.numerals w.formed.numerals) (inverse h.numerals w.formed.numerals) e
