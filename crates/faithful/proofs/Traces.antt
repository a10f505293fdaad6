-- Every trace over lines that run is sound.
use Rattle.std.proofs.Common.{◌≡◌, ℕ, ◌<◌, List, [], ◌∷◌, ◌++◌, map, length, Some, Option, sym, refl, ap, ◌∙◌, subst, append_assoc, append-nil, arith, length-append}
use Rattle.std.specs.List.{AllByRecursion as All}
use Rattle.dump.specs.Heaps.{Heap}
use Rattle.planner.specs.Lines.{Plan}
use Rattle.evaluator.specs.Runs.{run}
use Rattle.traces.specs.Traces.{told, refused, Entry, sends, lefts, ends, Does, Trace, begins, calls, sent_by, sent}
use Rattle.traces.specs.Theorem.{texts_of, bytes_in, IsAll, Counts, SoundAt, Sound}
use Rattle.faithful.specs.Accepted.{FaithfulAt}
use Rattle.faithful.specs.Runs.{Runs}

-- a call takes the line that it sent whole
does_takes : (left : List (List ℕ)) (e : Entry) (after : List (List ℕ)) → Does left e after → left ≡ sent_by e ++ after
does_takes [] (sends space got (told n)) after d = absurd d
does_takes [] (sends space got (refused k)) after d = sym d.2
does_takes (l ∷ ls) (sends space got (told n)) after d = let first = d.2 in let rest = d.3 in cc
does_takes (l ∷ ls) (sends space got (refused k)) after d = sym d.3
does_takes left (lefts n) after d = sym d.1
does_takes left (ends n) after d = sym d.1

-- lines planned are lines sent whole and lines left
pub trace_takes : (lines : List (List ℕ)) (es : List Entry) (left : List (List ℕ)) → Trace lines es left → lines ≡ sent es ++ left
trace_takes lines [] left begins = refl
trace_takes lines (e ∷ es) left (calls {between = between} d f t) =
    does_takes lines e between d ∙ ap (λ (x : List (List ℕ)). sent_by e ++ x) (trace_takes between es left t) ∙ sym (append_assoc (sent_by e) (sent es) left)

nil_cons : {A X : Type 0} (x : A) (xs : List A) → ◌≡◌ {A = List A} [] (x ∷ xs) → X
nil_cons x xs e = absurd (let z : ◌≡◌ {A = ℕ} 0 1 = cc in omega arith)

-- a call answers exactly when it must
does_counts : (left : List (List ℕ)) (e : Entry) (after : List (List ℕ)) → Does left e after → Counts left e
does_counts [] (sends space got (told n)) after d = absurd d
does_counts [] (sends space got (refused k)) after d = let none = d.0 in (λ e. refl, λ e. none, λ (e : k ≡ 22). absurd (omega arith), λ l ls e. nil_cons l ls e)
does_counts (l ∷ ls) (sends space got (told n)) after d = (l, ls, refl, d.0, d.1, d.2)
does_counts (l ∷ ls) (sends space got (refused k)) after d =
    let full = d.0 in (
      λ (e : k ≡ 23). absurd (omega arith),
      λ e. nil_cons l ls (sym e),
      λ e. (l, ls, refl, d.1),
      λ m ms e. (d.0, (let same : l ≡ m = cc in subst (λ x. space < length x) same d.1)),
    )
does_counts left (lefts n) after d = d.0
does_counts left (ends n) after d = d.0

-- the first call of a trace
first_counts : (left : List (List ℕ)) (es : List Entry) (end : List (List ℕ)) → Trace left es end → (e : Entry) (rest : List Entry) → es ≡ e ∷ rest → Counts left e
first_counts left [] end begins e rest same = nil_cons e rest same
first_counts left (c ∷ cs) end (calls {between = between} d f t) e rest same = let first : c ≡ e = cc in subst (Counts left) first (does_counts left c between d)

module _ (h : Heap) (reading : List ℕ → Option ℕ) where
  sound_at : (lines : List (List ℕ)) → Runs h reading lines → (es : List Entry) (left : List (List ℕ)) → Trace lines es left → SoundAt h reading lines es left
  sound_at lines runs es left t =
      let takes = trace_takes lines es left t in
      let r = runs.prefix (sent es) left takes in
      record {
        ran = r.0;
        runs = r.1;
        counts = ap length takes ∙ length-append (sent es) left;
        rebuilt = λ none. runs.whole r.0 (subst (λ x. run reading x ≡ Some r.0) (sym (takes ∙ ap (λ (x : List (List ℕ)). sent es ++ x) none ∙ append-nil (sent es))) r.1);
      }

  -- every trace over lines that run is sound
  pub sounds : (lines : List (List ℕ)) → Runs h reading lines → (es : List Entry) (left : List (List ℕ)) → Trace lines es left → Sound h reading lines es
  sounds lines runs es left t before after between end parts t₁ t₂ = (sound_at lines runs before between t₁, first_counts between after end t₂)

-- what holds of all holds of one between others
all_between : {X : Type 0} (P : X → Type 0) (ls : List X) (l : X) (ms : List X) → All P (ls ++ (l ∷ ms)) → P l
all_between P [] l ms a = a.0
all_between P (x ∷ ls) l ms a = all_between P ls l ms a.1

-- a plan whose lines have all their bytes and run is delivered faithfully
pub faithful_from : (h : Heap) (numeral : ℕ → Option (List ℕ)) (reading : List ℕ → Option ℕ) (p : Plan)
    → All IsAll (texts_of numeral p) → Runs h reading (map bytes_in (texts_of numeral p)) → FaithfulAt h numeral reading p
faithful_from h numeral reading p texts runs = (
  λ l ls ms e. all_between IsAll ls l ms (subst (All IsAll) e texts),
  λ es left t. sounds h reading (map bytes_in (texts_of numeral p)) runs es left t,
)
