-- Levelled sequential programs with one spelling are the same.
use Rattle.std.proofs.Common.{◌≡◌, ℕ, ◌+◌, ◌-◌, List, [], Result, Ok, Err, refl, sym, ap, ◌∙◌, arith}
use Rattle.brisk_lex.specs.declared.token.Token.{Token}
use Rattle.brisk_lex.specs.declared.fault.LexFault.{LexFault}
use Rattle.brisk_lex.specs.Tokens.{tokens, tokens_of}
use Rattle.brisk_parse.specs.declared.fault.Stop.{Stop}
use Rattle.brisk_parse.specs.Input.{Input, at}
use Rattle.brisk_parse.specs.Limits.{Limits}
use Rattle.brisk_parse.specs.Sequences as read
use Rattle.brisk_parse.specs.SequenceSpelling.{LevelledSequence, SequenceWithin, count_items, sequence_spelling}
use Rattle.brisk_parse.proofs.Enough.{AtLeast, smaller}
use Rattle.brisk_parse.proofs.EnoughItems.{sequence_enough}
use Rattle.brisk_parse.proofs.Judged.{judged}
use Rattle.brisk_parse.proofs.JudgedSequences.{whole_judged}
use Rattle.brisk_parse.proofs.NothingPassedItems.{sequence_free}
use Rattle.brisk_seq.specs.declared.tree.SeqProgram.{SeqProgram}
use Rattle.brisk_written.specs.Laws.{SpellingsDetermine}

-- each limit is this number
abbrev every : ℕ → Limits
every n = record { tokens = n; places = n; kinds = n; tags = n; declarations = n; enums = n; channels = n; roles = n; statements = n; nesting = n }

-- what is spelled as a levelled sequential program within the limits is read
is_read : (l : Limits) (Q : SeqProgram) → LevelledSequence Q → SequenceWithin l Q → read.whole l (at (sequence_spelling Q) 0 l.statements) ≡ Ok (Q, at [] 0 (l.statements - count_items Q.body))
is_read l Q levelled within = whole_judged l Q 0 levelled ∙ ap (λ p. judged p (sequence_spelling Q) (Ok (Q, at [] 0 (l.statements - count_items Q.body)))) (sequence_free l Q within)

same_pair : (x y : SeqProgram × Input) → ◌≡◌ {A = Result (SeqProgram × Input) Stop} (Ok x) (Ok y) → x ≡ y
same_pair x y h = cc

same_tree : (Q R : SeqProgram) (i j : Input) → ◌≡◌ {A = Result (SeqProgram × Input) Stop} (Ok (Q, i)) (Ok (R, j)) → Q ≡ R
same_tree Q R i j h = let p : ◌≡◌ {A = SeqProgram × Input} (Q, i) (R, j) = same_pair (Q, i) (R, j) h in ap (λ (x : SeqProgram × Input). x.0) p

same_spelling : (Q R : SeqProgram) → LevelledSequence Q → LevelledSequence R → sequence_spelling Q ≡ sequence_spelling R → Q ≡ R
same_spelling Q R q r same =
    let a = sequence_enough Q in let b = sequence_enough R in let n = a.bound + b.bound in
    let l = every n in
    let enough : AtLeast n l = record { tokens = omega arith; places = omega arith; kinds = omega arith; tags = omega arith; declarations = omega arith; enums = omega arith; channels = omega arith; roles = omega arith; statements = omega arith; nesting = omega arith } in
    let one = is_read l Q q (a.holds l (smaller n a.bound l (omega arith) enough)) in
    let two = is_read l R r (b.holds l (smaller n b.bound l (omega arith) enough)) in
    same_tree Q R _ _ (sym one ∙ ap (λ (ts : List Token). read.whole l (at ts 0 l.statements)) same ∙ two)

same_tokens : (ts us : List Token) → ◌≡◌ {A = Result (List Token) LexFault} (Ok ts) (Ok us) → ts ≡ us
same_tokens ts us h = cc

pub spellings_determine : SpellingsDetermine
spellings_determine text Q R q r = same_spelling Q R q.levelled r.levelled (same_tokens _ _ (sym q.spelled ∙ r.spelled))
