-- Steps of an evaluation: each adds objects to the store, one after the other, and names stay as they are.
use Rattle.std.proofs.Common.{◌≡◌, ℕ, zero, suc, ◌+◌, ◌≤◌, cond, eqb, List, [], ◌∷◌, ◌++◌, length, Some, None, sym, refl, ap, ◌∙◌, subst, append_assoc, arith, length-append, eq-eqb, ne_eqb}
use Rattle.std.proofs.lemmas.Bool.{cond-true, cond-false}
use Rattle.dump.specs.Heaps.{Value, Heap}
use Rattle.script.specs.Syntax.{Expr}
use Rattle.planner.specs.Lates.{Late, lates}
use Rattle.evaluator.specs.Options.{nth}
use Rattle.evaluator.specs.Stores.{Obj, Bound, State}
use Rattle.evaluator.specs.Isomorphic.{Pairing}
use Rattle.effects.specs.Effects.{grown}
use Rattle.rebuilds.specs.Pending.{All2, a_nil, a_cons, Stored, Store, occ}
use Rattle.rebuilds.specs.Good.{Good, Names, Built}
use Rattle.pending.proofs.Lists.{all2_length, all2-++}
use Rattle.effects.proofs.Options.{nth_left, nth_right}
use Rattle.pending.proofs.Grows.{ext_append, store_ext}
use Rattle.expressions.proofs.Plain.{grown_nil}

pub occ-++ : (y : ℕ) (ps qs : Pairing) → occ y (ps ++ qs) ≡ occ y ps + occ y qs
occ-++ y [] qs = omega arith
occ-++ y (None ∷ ps) qs = occ-++ y ps qs
occ-++ y (Some x ∷ ps) qs = let e = occ-++ y ps qs in omega arith

pub occ_at : (o p : ℕ) (ps : Pairing) → nth ps p ≡ Some (Some o) → 1 ≤ occ o ps
occ_at o p [] e = absurd (let z : ◌≡◌ {A = ℕ} 0 1 = cc in omega arith)
occ_at o zero (None ∷ ps) e = absurd (let z : ◌≡◌ {A = ℕ} 0 1 = cc in omega arith)
occ_at o zero (Some x ∷ ps) e = let d : x ≡ o = cc in let q = eq-eqb o x (sym d) in grind arith
occ_at o (suc p) (None ∷ ps) e = occ_at o p ps e
occ_at o (suc p) (Some x ∷ ps) e = let i = occ_at o p ps e in omega arith

-- what is left to do may be said otherwise of objects that are not there
pub store_on : (h : Heap) (own : Pairing) (left left' : ℕ → List Late) {ps : Pairing} {xs : List Obj} → ((o : ℕ) → 1 ≤ occ o ps → left o ≡ left' o) → Store h own left ps xs → Store h own left' ps xs
store_on h own left left' f a_nil = a_nil
store_on h own left left' f (a_cons {a = None} {b = x} r t) = a_cons tt (store_on h own left left' f t)
store_on h own left left' f (a_cons {a = Some o} {b = x} {xs = ps} r t) =
    a_cons (subst (λ ls. Rattle.rebuilds.specs.Pending.Pending h own o ls x) (f o (let q = eq-eqb o o refl in grind arith)) r)
    (store_on h own left left' (λ j n. f j (let m : occ j ps ≤ occ j (Some o ∷ ps) = omega arith in omega arith)) t)

module _ (h : Heap) (order : List ℕ) where
  -- a state after some lines, and perhaps in the midst of one
  pub record Ready (own : Pairing) (t : ℕ) (s : State) : Type 0 where
    pub left : ℕ → List Late
    pub built : Built h order own left t s

  -- objects are added, each of which lacks just its follow-ups
  pub record Step (own : Pairing) (s : State) (adds : Pairing) (s' : State) : Type 0 where
    pub new : List Obj
    pub is : s' ≡ grown s new
    pub objects : Store h (own ++ adds) (lates h order) adds new

  pub step_nil : (own : Pairing) (s : State) → Step own s [] s
  step_nil own s = record { new = []; is = sym (grown_nil s); objects = a_nil }

  -- one object that only comes up on the way
  pub step_junk : (own : Pairing) (s : State) (x : Obj) → Step own s (None ∷ []) (grown s (x ∷ []))
  step_junk own s x = record { new = x ∷ []; is = refl; objects = a_cons tt a_nil }

  pub step_then : (own : Pairing) (s : State) (a : Pairing) (s₁ : State) (b : Pairing) (s₂ : State) → Step own s a s₁ → Step (own ++ a) s₁ b s₂ → Step own s (a ++ b) s₂
  step_then own s a s₁ b s₂ f g =
      let e = append_assoc own a b in
      record {
        new = f.new ++ g.new;
        is = g.is ∙ (ap (λ z. grown z g.new) f.is ∙ ap (λ z. record { objects = z; names = s.names }) (append_assoc s.objects f.new g.new));
        objects = subst (λ z. Store h z (lates h order) (a ++ b) (f.new ++ g.new)) e
            (all2-++ (store_ext (own ++ a) ((own ++ a) ++ b) (ext_append (own ++ a) b) h (lates h order) f.objects) g.objects);
      }

  pub step_good : {own : Pairing} {s : State} {e : Expr} {v : Value} {m : ℕ → ℕ} → (g : Good h order own s e v m) → Step own s g.adds (grown s g.new)
  step_good g = record { new = g.new; is = refl; objects = g.objects }

  names_more : (own more : Pairing) (t : ℕ) (ns : List Bound) → Names h order own t ns → Names h order (own ++ more) t ns
  names_more own more t ns n =
      record { bound = λ o m l lt. let b = n.bound o m l lt in (b.0, b.1, nth_left own more b.0 (Some (Rattle.planner.specs.Lines.target h order o)) b.2); free = n.free }

  -- the state after a step is ready for the next
  pub step_ready : (own : Pairing) (t : ℕ) (s : State) (adds : Pairing) (s' : State) → Ready own t s → Step own s adds s' → ((y : ℕ) → occ y own + occ y adds ≤ 1) → Ready (own ++ adds) t s'
  step_ready own t s adds s' r f once =
      let left : ℕ → List Late = λ o. cond (eqb (occ o adds) 0) (r.left o) (lates h order o) in
      subst (λ z. Ready (own ++ adds) t z) (sym f.is)
      (record {
        left = left;
        built = record {
          store = all2-++
              (store_on h (own ++ adds) r.left left (λ o n. sym (cond-true (eqb (occ o adds) 0) (r.left o) (lates h order o) (eq-eqb (occ o adds) 0 (let q = once o in omega arith))))
              (store_ext own (own ++ adds) (ext_append own adds) h r.left r.built.store))
              (store_on h (own ++ adds) (lates h order) left (λ o n. sym (cond-false (eqb (occ o adds) 0) (r.left o) (lates h order o) (ne_eqb (occ o adds) 0 (λ z. omega arith)))) f.objects);
          names = names_more own adds t s.names r.built.names;
        };
      })

  -- as many places as objects
  pub ready_length : (own : Pairing) (t : ℕ) (s : State) → Ready own t s → length own ≡ length s.objects
  ready_length own t s r = all2_length r.built.store

  pub step_length : (own : Pairing) (s : State) (adds : Pairing) (s' : State) → length own ≡ length s.objects → Step own s adds s' → length (own ++ adds) ≡ length s'.objects
  step_length own s adds s' e f =
      length-append own adds ∙ (ap (λ n. n + length adds) e ∙ (ap (λ n. length s.objects + n) (all2_length f.objects) ∙ (sym (length-append s.objects f.new) ∙ sym (ap (λ z. length z.objects) f.is))))

  -- the next object stands at the end
  pub made_last : (own : Pairing) (s : State) (o : ℕ) → length own ≡ length s.objects → nth (own ++ (Some o ∷ [])) (length s.objects) ≡ Some (Some o)
  made_last own s o e = ap (nth (own ++ (Some o ∷ []))) (sym e ∙ sym_zero (length own)) ∙ nth_right own (Some o ∷ []) 0
    where
      sym_zero : (n : ℕ) → n ≡ n + 0
      sym_zero n = omega arith
