-- A layout denotes its program, and so no two programs have one layout.
use Rattle.std.proofs.Common.{◌≡◌, List, [], ◌∷◌, Result, Ok, Err, map, refl, sym, ap, subst, ◌∙◌}
use Rattle.std.specs.List.{AllByRecursion}
use Rattle.brisk_lex.specs.declared.fault.LexFault.{LexFault}
use Rattle.brisk_lex.specs.declared.token.Placed.{Placed}
use Rattle.brisk_lex.specs.declared.token.Token.{Token}
use Rattle.brisk_lex.specs.Tokens.{tokens, tokens_of}
use Rattle.brisk_syntax.specs.declared.tree.Who.{Who}
use Rattle.brisk_syntax.specs.declared.tree.Who.TheVariants as who
use Rattle.brisk_syntax.specs.Roles.{RoleText}
use Rattle.brisk_syntax.specs.Syntax.{Statement, Assign, Send, Recv, RecvAny, If, IfElse, While, For, Repeat, Code, done, ◌⨾◌}
use Rattle.brisk_parse.specs.Levelled.{IsPlain, LevelledStatement, LevelledCode, LevelledRole}
use Rattle.brisk_parse.specs.SequenceSpelling.{sequence_spelling, LevelledOutline, DenotesSequence}
use Rattle.brisk_parse.specs.Spelling.{spelling}
use Rattle.brisk_parse.specs.Within.{Denotes}
use Rattle.brisk_parse.proofs.Denoted.{denotes_one, denotes_one_sequence}
use Rattle.brisk_readback.specs.Laws.{LayoutDenotes, LayoutsDiffer, SequenceLayoutDenotes, SequenceLayoutsDiffer}
use Rattle.brisk_print.specs.Layout as layout
use Rattle.brisk_readback.specs.Legal.{IsNamed, NamesPartners, NamesAll}
use Rattle.brisk_readback.proofs.ReadPrograms.{layout_is_spelled}
use Rattle.brisk_readback.proofs.ReadSequential.{sequential_is_spelled}

-- ---- in levelled trees no partner is a process

plain_named : (u : Who) → IsPlain u → IsNamed u
plain_named (who.Name n) h = tt
plain_named (who.At s) h = tt
plain_named (who.Pid p) h = h

mutual
  levelled_names : (s : Statement) → LevelledStatement s → NamesPartners s
  levelled_names (Assign x e) h = tt
  levelled_names (Send c es u) h = plain_named u h.1
  levelled_names (Recv c xs u) h = plain_named u h
  levelled_names (RecvAny c xs v s b) h = levelled_names_all b h
  levelled_names (If e a) h = levelled_names_all a h.1
  levelled_names (IfElse e a b) h = (levelled_names_all a h.1, levelled_names_all b h.2)
  levelled_names (While e b) h = levelled_names_all b h.1
  levelled_names (For v s k b) h = levelled_names_all b h.1
  levelled_names (Repeat s k b) h = levelled_names_all b h.1

  levelled_names_all : (c : Code) → LevelledCode c → NamesAll c
  levelled_names_all done h = tt
  levelled_names_all (s ⨾ c) h = (levelled_names s h.0, levelled_names_all c h.1)

roles_named : (rs : List RoleText) → AllByRecursion LevelledRole rs → AllByRecursion (λ r. NamesAll r.code) rs
roles_named [] h = tt
roles_named (r ∷ rs) h = (levelled_names_all r.code h.0.1, roles_named rs h.1)

-- ---- what the tokens denote

placed_tokens : (r : Result (List Placed) LexFault) (us : List Token) → tokens_of r ≡ Ok us → (ts : List Placed) × (r ≡ Ok ts) × (map (λ p. p.token) ts ≡ us)
placed_tokens (Ok ts) us h = (ts, refl, cc)
placed_tokens (Err e) us h = absurd (let k = h in cc)

pub layout_denotes : LayoutDenotes
layout_denotes P h =
    let read = placed_tokens (tokens (layout.program P)) (spelling P) (layout_is_spelled P (record { legal = h.legal; named = roles_named P.roles h.levelled.roles })) in
    (read.0, read.1, record { spelled = read.2; levelled = h.levelled; within = h.within })

same_ok : {A E : Type 0} (x y : A) → (let r : Result A E = Ok x in r ≡ Ok y) → x ≡ y
same_ok x y h = cc

pub layouts_differ : LayoutsDiffer
layouts_differ P Q p q e =
    let a = layout_denotes P p in
    let b = layout_denotes Q q in
    let same : a.0 ≡ b.0 = same_ok a.0 b.0 (sym a.1 ∙ ap tokens e ∙ b.1) in
    denotes_one b.0 P Q (subst (λ (ts : List Placed). Denotes ts P) same a.2) b.2

-- ---- sequential programs

roles_empty : (rs : List RoleText) → AllByRecursion LevelledOutline rs → AllByRecursion (λ r. r.code ≡ done) rs
roles_empty [] h = tt
roles_empty (r ∷ rs) h = (h.0.1, roles_empty rs h.1)

pub sequence_layout_denotes : SequenceLayoutDenotes
sequence_layout_denotes Q h =
    let read = placed_tokens (tokens (layout.sequential Q)) (sequence_spelling Q) (sequential_is_spelled Q (record { legal = h.legal; empty = roles_empty Q.roles h.levelled.roles })) in
    (read.0, read.1, record { spelled = read.2; levelled = h.levelled; within = h.within })

pub sequence_layouts_differ : SequenceLayoutsDiffer
sequence_layouts_differ Q R q r e =
    let a = sequence_layout_denotes Q q in
    let b = sequence_layout_denotes R r in
    let same : a.0 ≡ b.0 = same_ok a.0 b.0 (sym a.1 ∙ ap tokens e ∙ b.1) in
    denotes_one_sequence b.0 Q R (subst (λ (ts : List Placed). DenotesSequence ts Q) same a.2) b.2
