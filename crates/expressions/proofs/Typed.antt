-- What a typed array with data of its own makes, by places: some objects that stand for nothing, its buffer, perhaps another such object, and the view.
use Rattle.std.proofs.Common.{◌≡◌, ℕ, suc, ◌+◌, ◌-◌, Bool, true, false, List, [], ◌∷◌, ◌++◌, length, Some, None, Option, sym, refl, ap, ◌∙◌, subst, arith, length-append}
use Rattle.dump.specs.declared.kinds.ViewKind.{ViewKind}
use Rattle.dump.specs.declared.kinds.ViewKind.TheVariants.{Uint8Array}
use Rattle.dump.specs.Heaps.{Heap}
use Rattle.dump.specs.Kinds.{width}
use Rattle.script.specs.Texts.{Listing, numbers, floats, listing, all_zero}
use Rattle.planner.specs.Lates.{Late}
use Rattle.evaluator.specs.Options.{nth}
use Rattle.evaluator.specs.Stores.{Obj}
use Rattle.evaluator.specs.Isomorphic.{Pairing}
use Rattle.effects.specs.Effects.{listed, typed_view, fixed, typed_made, typed_on}
use Rattle.rebuilds.specs.Makes.{one}
use Rattle.rebuilds.specs.Pending.{a_nil, a_cons, Stored, Store, occ}
use Rattle.pending.proofs.Lists.{all2-++}
use Rattle.pending.proofs.Stores.{occ-++}
use Rattle.expressions.proofs.Stores.{nth_beyond}

-- in a store of n objects
pub record Laid (k : ViewKind) (bytes : List ℕ) (n : ℕ) : Type 0 where
  pub front : List Obj
  pub middle : List Obj
  pub on : ℕ
  pub place : on ≡ n + length front
  pub on_is : typed_on bytes n ≡ on
  pub made : typed_made k bytes n ≡ front ++ (fixed bytes ∷ (middle ++ (typed_view k on bytes ∷ [])))

pub laid : (k : ViewKind) (bytes : List ℕ) (n : ℕ) → Laid k bytes n
laid k bytes n = go (all_zero bytes) refl (listing k) refl
  where
    go : (z : Bool) → all_zero bytes ≡ z → (l : Listing) → listing k ≡ l → Laid k bytes n
    go true e l d = record { front = []; middle = []; on = n; place = omega arith; on_is = simp e; made = simp e }
    go false e (numbers minus big) d = record {
      front = listed minus big (width k) bytes ∷ [];
      middle = [];
      on = suc n;
      place = omega arith;
      on_is = simp e;
      made = simp (e, d);
    }
    go false e floats d = record {
      front = listed false false 1 bytes ∷ [];
      middle = typed_view Uint8Array (suc n) bytes ∷ [];
      on = suc n;
      place = omega arith;
      on_is = simp e;
      made = simp (e, d);
    }

-- places that stand for nothing
abbrev pub nones : List Obj → Pairing
nones [] = []
nones (x ∷ xs) = None ∷ nones xs

length-nones : (xs : List Obj) → length (nones xs) ≡ length xs
length-nones [] = refl
length-nones (x ∷ xs) = ap suc (length-nones xs)

occ_nones : (y : ℕ) (xs : List Obj) → occ y (nones xs) ≡ 0
occ_nones y [] = refl
occ_nones y (x ∷ xs) = occ_nones y xs

nones_stored : (h : Heap) (own : Pairing) (left : ℕ → List Late) (xs : List Obj) → Store h own left (nones xs) xs
nones_stored h own left [] = a_nil
nones_stored h own left (x ∷ xs) = a_cons tt (nones_stored h own left xs)

-- The same with the buffer b, and what the view stands for: by their places in a store that grew by it.
pub record Typed (h : Heap) (own : Pairing) (objs : List Obj) (k : ViewKind) (bytes : List ℕ) (b : ℕ) (last : Option ℕ) : Type 0 where
  pub adds : Pairing
  pub on : ℕ
  pub at : ℕ
  pub on_is : typed_on bytes (length objs) ≡ on
  pub at_is : length objs + length (typed_made k bytes (length objs)) - 1 ≡ at
  pub on_own : nth (own ++ adds) on ≡ Some (Some b)
  pub on_made : nth (objs ++ typed_made k bytes (length objs)) on ≡ Some (fixed bytes)
  pub at_own : nth (own ++ adds) at ≡ Some last
  pub at_made : nth (objs ++ typed_made k bytes (length objs)) at ≡ Some (typed_view k on bytes)
  pub stored : (all : Pairing) (left : ℕ → List Late) → Stored h all left (Some b) (fixed bytes) → Stored h all left last (typed_view k on bytes) → Store h all left adds (typed_made k bytes (length objs))
  pub counts : (y : ℕ) → occ y adds ≡ one y b + occ y (last ∷ [])

module _ {A : Type 0} (xs fs : List A) (b : A) where
  -- behind two lists
  nth_second : (rest : List A) (m : ℕ) → m ≡ length xs + length fs → nth (xs ++ (fs ++ (b ∷ rest))) m ≡ Some b
  nth_second rest m e = nth_beyond xs (fs ++ (b ∷ rest)) (length xs) (length fs) m refl e ∙ nth_beyond fs (b ∷ rest) (length fs) 0 (length fs) refl (omega arith)

  -- at the end
  nth_end : (ms : List A) (a : A) (m : ℕ) → m ≡ length xs + (length fs + suc (length ms)) → nth (xs ++ (fs ++ (b ∷ (ms ++ (a ∷ []))))) m ≡ Some a
  nth_end ms a m e =
      nth_beyond xs (fs ++ (b ∷ (ms ++ (a ∷ [])))) (length xs) (length fs + suc (length ms)) m refl e
      ∙ nth_beyond fs (b ∷ (ms ++ (a ∷ []))) (length fs) (suc (length ms)) (length fs + suc (length ms)) refl refl
      ∙ nth_beyond ms (a ∷ []) (length ms) 0 (length ms) refl (omega arith)

module _ (h : Heap) (own : Pairing) (objs : List Obj) (len : length own ≡ length objs) (k : ViewKind) (bytes : List ℕ) (b : ℕ) (last : Option ℕ) where
  by_layout : Laid k bytes (length objs) → Typed h own objs k bytes b last
  by_layout l =
      let view = typed_view k l.on bytes in
      let nf = length-nones l.front in
      let nm = length-nones l.middle in
      let place = l.place in
      let size : length (typed_made k bytes (length objs)) ≡ length l.front + (length l.middle + 2) =
      ap length l.made ∙ length-append l.front (fixed bytes ∷ (l.middle ++ (view ∷ []))) ∙ omega (arith, length-append l.middle (view ∷ [])) in
      let at = l.on + (length l.middle + 1) in
      record {
        adds = nones l.front ++ (Some b ∷ (nones l.middle ++ (last ∷ [])));
        on = l.on;
        at = at;
        on_is = l.on_is;
        at_is = omega arith;
        on_own = nth_second own (nones l.front) (Some b) (nones l.middle ++ (last ∷ [])) l.on (omega arith);
        on_made = ap (λ xs. nth (objs ++ xs) l.on) l.made ∙ nth_second objs l.front (fixed bytes) (l.middle ++ (view ∷ [])) l.on (omega arith);
        at_own = nth_end own (nones l.front) (Some b) (nones l.middle) last at (omega arith);
        at_made = ap (λ xs. nth (objs ++ xs) at) l.made ∙ nth_end objs l.front (fixed bytes) l.middle view at (omega arith);
        stored = λ all left f v. subst (Store h all left (nones l.front ++ (Some b ∷ (nones l.middle ++ (last ∷ []))))) (sym l.made)
            (all2-++ (nones_stored h all left l.front) (a_cons f (all2-++ (nones_stored h all left l.middle) (a_cons v a_nil))));
        counts = λ y. omega (arith, occ-++ y (nones l.front) (Some b ∷ (nones l.middle ++ (last ∷ []))), occ-++ y (nones l.middle) (last ∷ []), occ_nones y l.front, occ_nones y l.middle);
      }

  pub typed : Typed h own objs k bytes b last
  typed = by_layout (laid k bytes (length objs))
