-- What puts by a loan tell of the sink that is lent.
use Rattle.std.proofs.Common.{◌≡◌, ℕ, List, Result, ap, MutBor}
use base.Fml.{GName}
use Rattle.sink.specs.declared.fault.SinkFault.{SinkFault}
use Rattle.sink.specs.Meanings.{Meaning}
use Rattle.sink.specs.Puts.{Put}
use Rattle.sink.specs.Sinks.{lent_means}

module _ {K : Type 0} (m : Meaning K) where
  pub lent_puts : {l l' : MutBor K} {bs : List ℕ} {r : Result Unit SinkFault} → Put (lent_means m) l bs r l' → Put m l.now bs r l'.now
  lent_puts p = record { answers = p.answers; left = p.left; goes = p.goes; stays = ap (λ (x : GName × m.Place). x.1) p.stays; small = p.small }

  -- it is the same sink
  pub lent_name : {l l' : MutBor K} {bs : List ℕ} {r : Result Unit SinkFault} → Put (lent_means m) l bs r l' → l'.ghost_name ≡ l.ghost_name
  lent_name p = ap (λ (x : GName × m.Place). x.0) p.stays
