-- What is still to be put. A loop that puts piece by piece has it for its invariant: no list of what went out is needed.
use Rattle.std.proofs.Common.{◌≡◌, ℕ, List, [], ◌++◌, Ok, Err, Result}
use Rattle.sink.specs.declared.fault.SinkFault.{SinkFault}
use Rattle.sink.specs.Meanings.{Meaning}
use Rattle.sink.specs.Puts.{Put}
use Rattle.sink.proofs.Puts.{put_none, put_then, put_stops}

-- From k the rest leads just where the whole leads from k₀.
pub record Owes {K : Type 0} (m : Meaning K) (k₀ : K) (whole : List ℕ) (k : K) (rest : List ℕ) : Type 0 where
  pub leads : (r : Result Unit SinkFault) (k' : K) → Put m k rest r k' → Put m k₀ whole r k'

module _ {K : Type 0} {m : Meaning K} where
  -- at the start
  pub owes_all : (k : K) (xs : List ℕ) → Owes m k xs k xs
  owes_all k xs = record { leads = λ r k' p. p }

  -- a piece went out
  pub owes_put : {k₀ k k' : K} {whole xs : List ℕ} {u : Unit {0}} (rest : List ℕ) → Owes m k₀ whole k (xs ++ rest) → Put m k xs (Ok u) k' → Owes m k₀ whole k' rest
  owes_put rest o p = record { leads = λ r k'' q. o.leads r k'' (put_then p q) }

  -- a piece did not fit
  pub owes_full : {k₀ k k' : K} {whole xs : List ℕ} {f : SinkFault} (rest : List ℕ) → Owes m k₀ whole k (xs ++ rest) → Put m k xs (Err f) k' → Put m k₀ whole (Err f) k'
  owes_full rest o p = o.leads _ _ (put_stops rest p)

  -- nothing is left
  pub owes_none : {k₀ k : K} {whole : List ℕ} → Owes m k₀ whole k [] → Put m k₀ whole (Ok tt) k
  owes_none {k₀} {k} o = o.leads (Ok tt) k (put_none k)

  -- the last piece, whichever way it goes
  pub owes_last : {k₀ k k' : K} {whole xs : List ℕ} {r : Result Unit SinkFault} → Owes m k₀ whole k xs → Put m k xs r k' → Put m k₀ whole r k'
  owes_last o p = o.leads _ _ p

  -- the rest under another name
  pub owes_as : {k₀ k : K} {whole xs ys : List ℕ} → xs ≡ ys → Owes m k₀ whole k xs → Owes m k₀ whole k ys
  owes_as e o = rw e at o
