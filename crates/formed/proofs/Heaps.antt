-- The heap of an accepted dump is well formed.
use Rattle.std.proofs.Common.{◌≡◌, ℕ, ◌+◌, ◌<◌, true, false, eqb, List, Ok, sym, subst, arith}
use lib.Pow.{are_bytes}
use Rattle.std.proofs.lemmas.Bool.{and_parts, or_parts, not-true, eqb-false, ltb-true}
use Rattle.dump.specs.declared.layout.Layout.{Layout}
use Rattle.dump.specs.Heaps.{Numeral}
use Rattle.dump.specs.Layouts.{layout_of}
use Rattle.dump.specs.Meaning.{object_of, numeral_of, heap_of, kind_of, parts_of}
use Rattle.dump.specs.Places.{row_at, root_at, text_of, numeral_bits, numeral_text}
use Rattle.dump.proofs.Rules.{none_passes}
use Rattle.numeral.specs.Numerals.{is_pair}
use Rattle.rules.specs.Texts.{same_numeral}
use Rattle.formed.specs.Sound.{Sound}
use Rattle.formed.specs.Formed.{PartsFormed, ObjectFormed, ValueFormed, Lawful, Formed}
use Rattle.formed.specs.Theorems.{AcceptedIsFormed}
use Rattle.formed.proofs.Layouts.{few_objects}
use Rattle.formed.proofs.Lists.{all_counting, pairwise_counting}
use Rattle.formed.proofs.Objects.{object_count, row_formed}
use Rattle.formed.proofs.Texts.{same_text}
use Rattle.formed.proofs.Values.{value_formed}
use Rattle.formed.proofs.Verdict as verdict
use Rattle.formed.proofs.Words.{low_below, high_below, a_below, b_below, c_below, d_below}

module _ (b : List ℕ) (l : Layout) (bytes : are_bytes b ≡ true) (s : Sound b l) where
  object_formed : (i : ℕ) → i < l.objects.count → ObjectFormed (heap_of b l) (object_of b l i)
  object_formed i g =
      let h = s.objects i g in
      let f = row_formed b l bytes s (row_at b l i) (record {
        words = h.0;
        numbers = (and_parts _ _ h.1.0).0;
        bigint = h.1.1.0;
        limits = h.1.1.1.0;
        buffers = h.1.1.1.1.0;
        a_below = a_below b bytes l i;
        b_below = b_below b bytes l i;
        c_below = c_below b bytes l i;
        d_below = d_below b bytes l i;
        parts = λ k e. s.parts i k g e;
        more_parts = λ k e. s.more_parts i k g e;
      }) in
      (f.0, subst (λ n. PartsFormed (heap_of b l) n (kind_of b l (row_at b l i)) (parts_of b l (row_at b l i))) (sym (object_count b l bytes s)) f.1)

  numeral_rule : (i : ℕ) → i < l.numerals.count → (numeral_text b l i < l.texts.count) × (is_pair (numeral_bits b l i) (text_of b l (numeral_text b l i)) ≡ true)
  numeral_rule i g = let h = s.numerals i g in (ltb-true _ _ h.0, (and_parts _ _ h.1.0).0)

  numerals_apart : (i j : ℕ) → i < j → j < l.numerals.count → (eqb (numeral_text b l j) (numeral_text b l i) ≡ false) × (eqb (numeral_bits b l j) (numeral_bits b l i) ≡ false)
  numerals_apart i j h g = or_parts _ _ (none_passes (same_numeral b l j) j i (not-true _ (and_parts _ _ (s.numerals j g).1.0).1) h)

  lawful : Lawful (heap_of b l).numerals
  lawful = (
    all_counting (λ (n : Numeral). is_pair n.bits n.digits ≡ true) (numeral_of b l) 0 l.numerals.count (λ k g. (numeral_rule (0 + k) (omega arith)).1),
    pairwise_counting (λ (m n : Numeral). (m.bits ≡ n.bits → ⊥) × (m.digits ≡ n.digits → ⊥)) (numeral_of b l) 0 l.numerals.count (λ i j h g. apart (0 + i) (0 + j) (omega arith) (omega arith)),
  )
    where
      apart : (i j : ℕ) → i < j → j < l.numerals.count → (numeral_bits b l i ≡ numeral_bits b l j → ⊥) × (text_of b l (numeral_text b l i) ≡ text_of b l (numeral_text b l j) → ⊥)
      apart i j h g =
          let there : i < l.numerals.count = omega arith in
          let x = numerals_apart i j h g in (
            λ e. eqb-false (numeral_bits b l j) (numeral_bits b l i) x.1 (sym e),
            λ e. eqb-false (numeral_text b l j) (numeral_text b l i) x.0 (sym (same_text b l s (numeral_text b l i) (numeral_text b l j) (numeral_rule i there).0 (numeral_rule j g).0 e)),
          )

  root_formed : ValueFormed l.objects.count (heap_of b l).root
  root_formed =
      let h = s.root in
      value_formed b l bytes (root_at b l) (record { tag = h.0; place = h.1.0; bigint = h.1.1.0; low = low_below b bytes _; high = high_below b bytes _ })

  pub formed : layout_of b ≡ Ok l → Formed (heap_of b l)
  formed found =
      let count = object_count b l bytes s in
      record {
        few = rw count (few_objects b l found);
        objects = all_counting (ObjectFormed (heap_of b l)) (object_of b l) 0 l.objects.count (λ k g. object_formed (0 + k) (omega arith));
        numerals = lawful;
        root = subst (λ n. ValueFormed n (heap_of b l).root) (sym count) root_formed;
      }

pub every : AcceptedIsFormed
every b h bytes accepted =
    let m = (verdict.every b h).0 accepted in
    subst Formed m.3 (formed b m.0 bytes m.2 m.1)
