-- A follow-up that fills a resizable buffer runs, and the buffer has its bytes.
use Rattle.std.proofs.Common.{◌≡◌, ℕ, zero, suc, ◌%◌, ◌<◌, Bool, true, false, eqb, leb, List, [], ◌∷◌, ◌++◌, length, drop, Some, None, Option, sym, refl, ap, ◌∙◌, subst, inl, ⊎_elim, append_assoc, append-nil, arith}
use Rattle.std.proofs.lemmas.Bool.{and_from, le-leb}
use Rattle.dump.specs.declared.kinds.ViewKind.{ViewKind}
use Rattle.dump.specs.declared.kinds.ViewKind.TheVariants.{Int8Array, Uint8Array, Uint8ClampedArray, Int16Array, Uint16Array, Int32Array, Uint32Array, Float32Array, Float64Array, BigInt64Array, BigUint64Array, DataView}
use Rattle.dump.specs.Heaps as heaps
use Rattle.dump.specs.Heaps.{Value, Key, Kind, boolean_object, number_object, bigint_object, string_object, plain, sparse, dense, map, set, Part, Heap}
use Rattle.dump.specs.Kinds.{width}
use Rattle.formed.specs.Formed.{PartsFormed}
use Rattle.script.specs.Texts.{numbers, listing}
use Rattle.planner.specs.Visits.{object_at}
use Rattle.planner.specs.Names.{buffer_in, slot, data_kind}
use Rattle.planner.specs.Lates.{sets, puts, adds, fills, Late, bytes_kind, lates_by, lates}
use Rattle.planner.specs.Lines.{bytes_of}
use Rattle.evaluator.specs.Options.{nth, and_then, when}
use Rattle.evaluator.specs.Stores.{ref, Shape, buffer, view, Slot, single, Obj, State, Made, make, change}
use Rattle.evaluator.specs.Makes as makes
use Rattle.evaluator.specs.Makes.{zeros, overwritten, width_of, BufferHeld, buffer_at, place_view, view_on}
use Rattle.evaluator.specs.Isomorphic.{Pairing, AlikeParts}
use Rattle.effects.specs.Effects.{grown, listed, filled, filled_by}
use Rattle.rebuilds.specs.Pending.{In, Bytes, Pends, Pending}
use Rattle.pending.proofs.Lates.{not_task, task_of}
use Rattle.effects.proofs.Objects.{formed_at}
use Rattle.effects.specs.Bounded.{Bounded}

-- a kind of bytes is listed as numbers
pub record Listed (k : ViewKind) : Type 0 where
  pub minus : Bool
  pub big? : Bool
  pub is : listing k ≡ numbers minus big?

pub kind_listed : (k : ViewKind) → Listed (bytes_kind k (listing k))
kind_listed Int8Array = record { minus = true; big? = false; is = refl }
kind_listed Uint8Array = record { minus = false; big? = false; is = refl }
kind_listed Uint8ClampedArray = record { minus = false; big? = false; is = refl }
kind_listed Int16Array = record { minus = true; big? = false; is = refl }
kind_listed Uint16Array = record { minus = false; big? = false; is = refl }
kind_listed Int32Array = record { minus = true; big? = false; is = refl }
kind_listed Uint32Array = record { minus = false; big? = false; is = refl }
kind_listed Float32Array = record { minus = false; big? = false; is = refl }
kind_listed Float64Array = record { minus = false; big? = false; is = refl }
kind_listed BigInt64Array = record { minus = true; big? = true; is = refl }
kind_listed BigUint64Array = record { minus = false; big? = true; is = refl }
kind_listed DataView = record { minus = false; big? = false; is = refl }

-- an offset of 0 is aligned
aligned : (k : ViewKind) → eqb (0 % width_of k) 0 ≡ true
aligned Int8Array = refl
aligned Uint8Array = refl
aligned Uint8ClampedArray = refl
aligned Int16Array = refl
aligned Uint16Array = refl
aligned Int32Array = refl
aligned Uint32Array = refl
aligned Float32Array = refl
aligned Float64Array = refl
aligned BigInt64Array = refl
aligned BigUint64Array = refl
aligned DataView = refl

zeros_length : (n : ℕ) → length (zeros n) ≡ n
zeros_length zero = refl
zeros_length (suc n) = ap suc (zeros_length n)

drop_all : {A : Type 0} (xs : List A) → drop (length xs) xs ≡ []
drop_all [] = refl
drop_all (x ∷ xs) = drop_all xs

-- as many bytes as there are take the place of all
overwritten_all : (bytes held : List ℕ) → length held ≡ length bytes → overwritten 0 bytes held ≡ bytes
overwritten_all bytes held e = ap (λ n. bytes ++ drop n held) (sym e) ∙ ap (λ z. bytes ++ z) (drop_all held) ∙ append-nil bytes

-- the view and the list that come up
abbrev fill_junk : ViewKind → ℕ → Bool → Bool → List ℕ → List Obj
fill_junk k p minus big? bytes = record { shape = view k 0 None; slots = single (ref p) ∷ [] } ∷ listed minus big? (width k) bytes ∷ []

module _ (p m : ℕ) (k : ViewKind) (minus big? : Bool) (bytes held : List ℕ) (ss : List Slot) (s : State) (e : nth s.objects p ≡ Some (record { shape = buffer held (Some m); slots = ss })) (n : length held ≡ length bytes) where
  -- what the buffer is, and the view on it
  buffer_is : buffer_at s (ref p) ≡ Some (record { bytes = held; maximum = Some m })
  buffer_is = ap (λ z. and_then z (λ o. makes.buffer_in o.shape)) e

  view_is : view_on k (ref p) 0 None s ≡ make (view k 0 None) (single (ref p) ∷ []) s
  view_is =
      ap (λ z. and_then z (λ b. place_view k (ref p) 0 None b s)) buffer_is
      ∙ ap (λ t. when t (make (view k 0 None) (single (ref p) ∷ []) s)) (and_from (eqb (0 % width_of k) 0) (leb 0 (length held)) (aligned k) (le-leb 0 (length held) (omega arith)))

  -- the rest, with the buffer and the view
  abbrev rest : BufferHeld → Made → Option State
  rest b w =
      and_then (make (listed minus big? (width k) bytes).shape (listed minus big? (width k) bytes).slots w.state) (λ l.
      when (leb (length bytes) (length b.bytes)) (Some (change p (record { shape = buffer (overwritten 0 bytes b.bytes) b.maximum; slots = [] }) l.state)))

  abbrev result : List ℕ → List Obj → Option State
  result bs os = Some (change p (record { shape = buffer bs (Some m); slots = [] }) (record { objects = os; names = s.names }))

  filled_runs : filled p (ref p) k minus big? bytes s ≡ Some (change p (record { shape = buffer bytes (Some m); slots = [] }) (grown s (fill_junk k p minus big? bytes)))
  filled_runs =
      ap (λ z. and_then z (λ b. and_then (view_on k (ref p) 0 None s) (rest b))) buffer_is
      ∙ ap (λ z. and_then z (rest (record { bytes = held; maximum = Some m }))) view_is
      ∙ ap (λ t. when t (result (overwritten 0 bytes held) ((s.objects ++ (record { shape = view k 0 None; slots = single (ref p) ∷ [] } ∷ [])) ++ (listed minus big? (width k) bytes ∷ [])))) (le-leb (length bytes) (length held) (omega arith))
      ∙ (λ i. result (overwritten_all bytes held n i) (append_assoc s.objects (record { shape = view k 0 None; slots = single (ref p) ∷ [] } ∷ []) (listed minus big? (width k) bytes ∷ []) i))

module _ (own : Pairing) (o : ℕ) (K L : List Late) (l : Late) (p : ℕ) (k : ViewKind) (task : l.task ≡ fills k) where
  abbrev Filled : List ℕ → Kind → List Part → State → Type 0
  Filled bytes kd ps s =
      (junk : List Obj) × (u : Obj) × (length junk ≡ 2) × (filled_by (listing k) p (ref p) k bytes s ≡ Some (change p u (grown s junk))) × Pends own o (K ++ L) kd ps u.shape u.slots

  -- as many bytes as it will have
  held_length : (bytes : List ℕ) (maximum : Option ℕ) (sh : Shape) (b : Bytes o (K ++ (l ∷ L)) bytes maximum sh) → length b.held ≡ length bytes
  held_length bytes maximum sh b = ⊎_elim (λ e. ap length e) (λ e. ap length e.0 ∙ zeros_length (length bytes)) b.holds

  buffer_mended : (h : Heap) (order : List ℕ) (t : ℕ) (bytes : List ℕ) (maximum : Option ℕ) (ps : List Part) (sh : Shape) (ss : List Slot) → ps ≡ [] → In l (lates_by h order o t (heaps.buffer bytes maximum) ps) →
      Pends own o (K ++ (l ∷ L)) (heaps.buffer bytes maximum) ps sh ss → (s : State) → nth s.objects p ≡ Some (record { shape = sh; slots = ss }) → Filled bytes (heaps.buffer bytes maximum) ps s
  buffer_mended h order t bytes maximum ps sh ss f i r s at =
      let q = task_of h order o t l (heaps.buffer bytes maximum) ps i in
      let c : fills k ≡ fills (bytes_kind (data_kind h order o) (listing (data_kind h order o))) = sym task ∙ q.3 in
      let d : k ≡ bytes_kind (data_kind h order o) (listing (data_kind h order o)) = cc in
      let g : Listed k = subst Listed (sym d) (kind_listed (data_kind h order o)) in
      let there : nth s.objects p ≡ Some (record { shape = buffer r.0.held (Some q.0); slots = ss }) = at ∙ ap (λ z. Some (record { shape = z; slots = ss })) (r.0.shape ∙ ap (buffer r.0.held) q.1) in (
        fill_junk k p g.minus g.big? bytes,
        record { shape = buffer bytes (Some q.0); slots = [] },
        refl,
        ap (λ z. filled_by z p (ref p) k bytes s) g.is ∙ filled_runs p q.0 k g.minus g.big? bytes r.0.held ss s there (held_length bytes maximum sh r.0),
        (record { held = bytes; shape = ap (buffer bytes) (sym q.1); holds = inl refl }, subst (λ z. AlikeParts own 0 z []) (sym f) refl),
      )

  fills_mended : (h : Heap) (order : List ℕ) (t n : ℕ) (kd : Kind) (ps : List Part) (sh : Shape) (ss : List Slot) → PartsFormed h n kd ps → In l (lates_by h order o t kd ps) →
      Pends own o (K ++ (l ∷ L)) kd ps sh ss → (s : State) → nth s.objects p ≡ Some (record { shape = sh; slots = ss }) → Filled (bytes_of h order (buffer_in kd)) kd ps s
  fills_mended h order t n (boolean_object y) ps sh ss f i r s at = elim i [ ]
  fills_mended h order t n (number_object bits) ps sh ss f i r s at = elim i [ ]
  fills_mended h order t n (bigint_object y) ps sh ss f i r s at = elim i [ ]
  fills_mended h order t n (string_object y) ps sh ss f i r s at = elim i [ ]
  fills_mended h order t n (heaps.regexp y flags) ps sh ss f i r s at = elim i [ ]
  fills_mended h order t n (heaps.date time) ps sh ss f i r s at = elim i [ ]
  fills_mended h order t n plain ps sh ss f i r s at = let q = task_of h order o t l plain ps i in not_task l.task (sets q.0 q.1) (fills k) q.2 task (λ z. omega arith)
  fills_mended h order t n (sparse m) ps sh ss f i r s at = let q = task_of h order o t l (sparse m) ps i in not_task l.task (sets q.0 q.1) (fills k) q.2 task (λ z. omega arith)
  fills_mended h order t n (dense m) ps sh ss f i r s at = let q = task_of h order o t l (dense m) ps i in not_task l.task (sets q.0 q.1) (fills k) q.2 task (λ z. omega arith)
  fills_mended h order t n map ps sh ss f i r s at = let q = task_of h order o t l map ps i in ⊎_elim (λ (c : (a : Value) × (b : Value) × (l.task ≡ puts a b)). not_task l.task (puts c.0 c.1) (fills k) c.2 task (λ z. omega arith)) (λ (c : (a : Value) × (l.task ≡ adds a)). not_task l.task (adds c.0) (fills k) c.1 task (λ z. omega arith)) q.0
  fills_mended h order t n set ps sh ss f i r s at = let q = task_of h order o t l set ps i in ⊎_elim (λ (c : (a : Value) × (b : Value) × (l.task ≡ puts a b)). not_task l.task (puts c.0 c.1) (fills k) c.2 task (λ z. omega arith)) (λ (c : (a : Value) × (l.task ≡ adds a)). not_task l.task (adds c.0) (fills k) c.1 task (λ z. omega arith)) q.0
  fills_mended h order t n (heaps.buffer bytes maximum) ps sh ss f i r s at = buffer_mended h order t bytes maximum ps sh ss f i r s at
  fills_mended h order t n (heaps.view y offset m tracking) ps sh ss f i r s at = elim i [ ]
  fills_mended h order t n (heaps.error e message stack) ps sh ss f i r s at = let q = task_of h order o t l (heaps.error e message stack) ps i in not_task l.task (sets q.0 q.1) (fills k) q.2 task (λ z. omega arith)

-- bytes filled in: `new K(v).set([..])`
pub fills_done : (h : Heap) (order : List ℕ) (own : Pairing) (o : ℕ) (K L : List Late) (l : Late) (x : Obj) (k : ViewKind) → Bounded h → o < length h.objects → In l (lates h order o) →
    Pending h own o (K ++ (l ∷ L)) x → l.task ≡ fills k → (p : ℕ) (s : State) → nth s.objects p ≡ Some x →
    (junk : List Obj) × (u : Obj) × (length junk ≡ 2) × (filled_by (listing k) p (ref p) k (bytes_of h order (buffer_in (object_at h o).kind)) s ≡ Some (change p u (grown s junk))) × Pending h own o (K ++ L) u
fills_done h order own o K L l x k f lt i r task p s at =
    fills_mended own o K L l p k task h order (slot h order o) (length h.objects) (object_at h o).kind (object_at h o).parts x.shape x.slots (formed_at h f o).1 i r s at
