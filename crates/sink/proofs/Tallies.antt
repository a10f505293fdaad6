-- What a tally's puts tell of the sink that it is lent.
use Rattle.std.proofs.Common.{◌≡◌, ℕ, ◌^◌, ◌<◌, ◌≤◌, true, List, length, take, is_err, IsErrAnd, Ok, Err, Result, sym, ap, ◌∙◌, subst, ⊎_elim, arith}
use base.Fml.{GName}
use Rattle.std.proofs.lemmas.Result.{err_from_is_err_and}
use Rattle.std.proofs.lemmas.Bool.{cases_eq}
use Rattle.sink.specs.declared.fault.SinkFault.{SinkFault}
use Rattle.sink.specs.declared.tally.Tally.{Tally}
use Rattle.sink.specs.Meanings.{Meaning}
use Rattle.sink.specs.Puts.{Put, Told}
use Rattle.sink.specs.Sinks.{tally_means}
use Rattle.sink.proofs.Puts.{put_fits, put_state}
use Rattle.sink.proofs.Runs.{run_tally_state, run_tally_count}

below : (n s : ℕ) → n ≤ s → (0 < n → s < 2 ^ 64) → n < 2 ^ 64
below n s l f = ⊎_elim (λ (z : n ≡ 0). omega arith) (λ (z : n ≡ 0 → ⊥). let h : 0 < n = omega arith in let j = f h in omega arith) (cases_eq n 0)

module _ {K : Type 0} (m : Meaning K) where
  -- the bytes went on to the sink
  pub tally_puts : {t t' : Tally K} {bs : List ℕ} {r : Result Unit SinkFault} → Put (tally_means m) t bs r t' → Put m t.sink.now bs r t'.sink.now
  tally_puts {t} {t'} {bs} p =
      record {
        answers = p.answers;
        left = p.left;
        goes = ap (λ (x : m.State × ℕ). x.0) p.goes ∙ run_tally_state m.rule (m.state t.sink.now) t.count (take (m.space t.sink.now) bs);
        stays = ap (λ (x : GName × m.Place). x.1) p.stays;
        small = p.small;
      }

  -- it is the same sink
  pub tally_name : {t t' : Tally K} {bs : List ℕ} {r : Result Unit SinkFault} → Put (tally_means m) t bs r t' → t'.sink.ghost_name ≡ t.sink.ghost_name
  tally_name p = ap (λ (x : GName × m.Place). x.0) p.stays

  -- all of them were counted, since they had a space below 2^64
  pub tally_count : {t t' : Tally K} {bs : List ℕ} {u : Unit {0}} → t.count ≡ 0 → Put (tally_means m) t bs (Ok u) t' → t'.count ≡ length bs
  tally_count {t} {t'} {bs} z p =
      let l = below (length bs) (m.space t.sink.now) (put_fits p) p.small in
      ap (λ (x : m.State × ℕ). x.1) (put_state p) ∙ run_tally_count m.rule (m.state t.sink.now) t.count bs (omega arith) ∙ omega arith

  -- What a function tells that puts by a tally of its own: k and k' are the sink that it is lent, before and after.
  pub tally_told : {t t' : Tally K} {bs : List ℕ} {u : Unit {0}} {k k' : K} {n : ℕ} → Put (tally_means m) t bs (Ok u) t' → t.count ≡ 0 → n ≡ t'.count → k ≡ t.sink.now → k' ≡ t'.sink.now → Told m k bs (Ok n) k'
  tally_told p z n e e' = rw (e, e') (record { puts = tally_puts p; counts = n ∙ tally_count z p })

  -- and at the exit of a `?`
  pub tally_stops : {t t' : Tally K} {bs : List ℕ} {f : SinkFault} {k k' : K} (r : Result ℕ SinkFault) → (is_err r ≡ true) × IsErrAnd r (λ y. y ≡ f) → Put (tally_means m) t bs (Err f) t' → k ≡ t.sink.now → k' ≡ t'.sink.now → Told m k bs r k'
  tally_stops {t} {t'} {bs} {f} {k} {k'} r i p e e' =
      let w = err_from_is_err_and r i.1 in
      let q : Told m k bs (Err f) k' = rw (e, e') (record { puts = tally_puts p; counts = tt }) in
      subst (λ x. Told m k bs x k') (sym (w.1 ∙ ap (λ y. Err y) w.2)) q
