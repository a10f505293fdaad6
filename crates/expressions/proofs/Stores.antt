-- What stands at a place of a store: a buffer with its length, a view with the place of its buffer.
use Rattle.std.proofs.Common.{◌≡◌, ℕ, zero, suc, ◌+◌, Bool, cond, List, [], ◌∷◌, ◌++◌, length, Some, None, Option, sym, refl, ap, ◌∙◌, subst, ⊎_elim, arith}
use Rattle.dump.specs.declared.kinds.ViewKind.{ViewKind}
use Rattle.dump.specs.Heaps as heaps
use Rattle.dump.specs.Heaps.{Kind, Part, below, Heap}
use Rattle.planner.specs.Visits.{object_at}
use Rattle.planner.specs.Lates.{Late, fills}
use Rattle.evaluator.specs.Options.{nth}
use Rattle.evaluator.specs.Stores.{ref, buffer, view, single, Obj}
use Rattle.evaluator.specs.Makes.{zeros}
use Rattle.evaluator.specs.Isomorphic.{Pairing}
use Rattle.rebuilds.specs.Pending.{Waits, Bytes, Pends, Pending, Stored}
use Rattle.effects.proofs.Options.{nth_right}

-- what stands in the second list stands so many places further on in both
pub nth_beyond : {A : Type 0} (xs ys : List A) (n k m : ℕ) → length xs ≡ n → m ≡ n + k → nth (xs ++ ys) m ≡ nth ys k
nth_beyond xs ys n k m l e = let q : m ≡ length xs + k = omega arith in ap (nth (xs ++ ys)) q ∙ nth_right xs ys k

pub length-zeros : (n : ℕ) → length (zeros n) ≡ n
length-zeros zero = refl
length-zeros (suc n) = ap suc (length-zeros n)

module _ (h : Heap) where
  -- an object by its kind and its parts
  pub pending_by : (own : Pairing) (o : ℕ) (ls : List Late) (k : Kind) (ps : List Part) (x : Obj) →
      (object_at h o).kind ≡ k → (object_at h o).parts ≡ ps → Pends own o ls k ps x.shape x.slots → Pending h own o ls x
  pending_by own o ls k ps x e d t =
      subst (λ k. Pends own o ls k (object_at h o).parts x.shape x.slots) (sym e) (subst (λ ps. Pends own o ls k ps x.shape x.slots) (sym d) t)

  pub pends_at : (own : Pairing) (o : ℕ) (ls : List Late) (k : Kind) (ps : List Part) (x : Obj) →
      (object_at h o).kind ≡ k → (object_at h o).parts ≡ ps → Pending h own o ls x → Pends own o ls k ps x.shape x.slots
  pends_at own o ls k ps x e d t =
      subst (λ ps. Pends own o ls k ps x.shape x.slots) d (subst (λ k. Pends own o ls k (object_at h o).parts x.shape x.slots) e t)

  -- what a built buffer has, whether it has its bytes yet or not
  pub record Sized (bytes : List ℕ) (maximum : Option ℕ) (x : Obj) : Type 0 where
    pub held : List ℕ
    pub shape : x.shape ≡ buffer held maximum
    pub size : length held ≡ length bytes

  pub bytes_size : (o : ℕ) (ls : List Late) (bytes : List ℕ) (maximum : Option ℕ) (x : Obj) → Bytes o ls bytes maximum x.shape → Sized bytes maximum x
  bytes_size o ls bytes maximum x b = record {
    held = b.held;
    shape = b.shape;
    size = ⊎_elim (λ (e : b.held ≡ bytes). ap length e)
        (λ (w : (b.held ≡ zeros (length bytes)) × ((k : ViewKind) × Waits o ls (fills k))). ap length w.0 ∙ length-zeros (length bytes)) b.holds;
  }

  -- the buffers of a store
  abbrev pub Buffered : Option ℕ → Obj → Type 0
  Buffered None x = Unit {0}
  Buffered (Some o) x = (bytes : List ℕ) (maximum : Option ℕ) → (object_at h o).kind ≡ heaps.buffer bytes maximum → Sized bytes maximum x

  pub buffered : (own : Pairing) (left : ℕ → List Late) (p : Option ℕ) (x : Obj) → Stored h own left p x → Buffered p x
  buffered own left None x t = tt
  buffered own left (Some o) x t = λ bytes maximum e. bytes_size o (left o) bytes maximum x (pends_at own o (left o) (heaps.buffer bytes maximum) (object_at h o).parts x e refl t).0

  -- a view at a place of a store, with the place of its buffer
  pub record Viewing (own : Pairing) (k : ViewKind) (offset : ℕ) (n : Option ℕ) (b : ℕ) (x : Obj) : Type 0 where
    pub on : ℕ
    pub shape : x.shape ≡ view k offset n
    pub slots : x.slots ≡ single (ref on) ∷ []
    pub stands : nth own on ≡ Some (Some b)

  pub viewing : (own : Pairing) (ls : List Late) (o : ℕ) (k : ViewKind) (offset n : ℕ) (tracking : Bool) (b : ℕ) (x : Obj) →
      (object_at h o).kind ≡ heaps.view k offset n tracking → (object_at h o).parts ≡ below b ∷ [] → Pending h own o ls x → Viewing own k offset (cond tracking None (Some n)) b x
  viewing own ls o k offset n tracking b x e d t =
      let r = pends_at own o ls (heaps.view k offset n tracking) (below b ∷ []) x e d t in
      let ps = r.1 in
      record {
        on = ps.3.0;
        shape = r.0;
        slots = ps.2 ∙ (λ i. single (ps.3.1 i) ∷ ps.4 i);
        stands = ps.3.2;
      }

  -- a built view on what stands for its buffer
  pub view_pending : (own : Pairing) (ls : List Late) (o : ℕ) (k : ViewKind) (offset n : ℕ) (tracking : Bool) (b on : ℕ) →
      (object_at h o).kind ≡ heaps.view k offset n tracking → (object_at h o).parts ≡ below b ∷ [] → nth own on ≡ Some (Some b) →
      Pending h own o ls (record { shape = view k offset (cond tracking None (Some n)); slots = single (ref on) ∷ [] })
  view_pending own ls o k offset n tracking b on e d t =
      pending_by own o ls (heaps.view k offset n tracking) (below b ∷ []) (record { shape = view k offset (cond tracking None (Some n)); slots = single (ref on) ∷ [] }) e d
      (refl, (ref on, [], refl, (on, refl, t), refl))
