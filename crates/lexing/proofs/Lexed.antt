-- The evaluator's lexer finds in the bytes of a statement's line the tokens of its items.
use Rattle.std.proofs.Common.{◌≡◌, ℕ, List, Some, Option, ap, ◌∙◌}
use Rattle.speller.specs.Spelling.{Lawful}
use Rattle.script.specs.Items.{all, line}
use Rattle.script.specs.Syntax.{Stmt}
use Rattle.script.specs.Texts.{stmt_items}
use Rattle.effects.specs.Readable.{StmtReadable}
use Rattle.effects.specs.Tokens.{items_tokens}
use Rattle.evaluator.specs.Options.{and_then}
use Rattle.evaluator.specs.Characters.{characters}
use Rattle.evaluator.specs.Tokens.{tokens}
use Rattle.lexing.proofs.Read.{reads}
use Rattle.lexing.proofs.Statements.{runs_statement}

pub lexed : (numeral : ℕ → Option (List ℕ)) → Lawful numeral → (base : ℕ) (s : Stmt) → StmtReadable numeral s →
    (bs : List ℕ) × (line numeral (stmt_items base s) ≡ all bs) × (and_then (characters bs) tokens ≡ Some (items_tokens numeral (stmt_items base s)))
lexed numeral lawful base s h =
    let r = reads numeral lawful (runs_statement numeral base s h) in
    (r.bytes, r.written, ap (λ o. and_then o tokens) r.decoded ∙ r.lexed)
