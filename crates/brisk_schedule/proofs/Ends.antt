-- What stands behind an instance, up to the end: where it fails, and the whole text of a schedule or of choices.
use Rattle.std.proofs.Common.{◌≡◌, ℕ, ◌+◌, ◌<◌, ◌⊎◌, inl, inr, List, [], ◌∷◌, ◌++◌, map, refl, sym, ap, ◌∙◌, subst, append_assoc, append-nil, arith}
use Rattle.std.specs.List.{AllByRecursion}
use Rattle.brisk_values.specs.declared.instance.Instance.{Instance as Given}
use Rattle.brisk_syntax.specs.declared.program.EnumDecl.{EnumDecl}
use Rattle.brisk_syntax.specs.Roles.{RoleText}
use Rattle.brisk_syntax.specs.Tokens.{weight}
use Rattle.brisk_instance.specs.Given.{AreApart, instance_with}
use Rattle.brisk_instance.proofs.OrderedFits.{ordered_fits}
use Rattle.brisk_lines.specs.declared.line.Line.{Line}
use Rattle.brisk_lines.specs.declared.line.Line.TheVariants as line
use Rattle.brisk_schedule.specs.declared.fault.ScheduleFault.{ScheduleFault}
use Rattle.brisk_schedule.specs.declared.fault.ScheduleFault.TheVariants.{Text}
use Rattle.brisk_schedule.specs.declared.format.Format.{Format}
use Rattle.brisk_schedule.specs.declared.format.Format.TheVariants as format
use Rattle.brisk_schedule.specs.declared.schedule.Schedule.{Schedule}
use Rattle.brisk_schedule.specs.declared.schedule.Choices.{Choices}
use Rattle.brisk_schedule.specs.Reading.{Fails, Limit, MayFollow, TellsTurns, head_line, sizes_in}
use Rattle.brisk_schedule.specs.Taking.{IsUnwanted, LacksEnd, Left, Takes, TakesInstance, TakesLine, TakesToEnd}
use Rattle.brisk_instance.specs.Starting.{IsReady, most_weight}
use Rattle.brisk_schedule.specs.Texts.{AreChoicesFor, IsScheduleFor, IsTold, Sizes, choices_lines, choices_text, event_line, instance_lines, schedule_lines, schedule_text, text_of_lines}
use Rattle.brisk_schedule.proofs.Instances.{instance_stands}
use Rattle.brisk_schedule.proofs.Sections.{Behind, behind_more, behind_next, behind_open, free_stand, next_behind}
use Rattle.brisk_schedule.proofs.Standing.{At, at_more, same_sizes, unwanted_fails}
use Rattle.brisk_schedule.proofs.Takes.{takes_both, takes_legal, takes_text}

module _ (f : Format) (enums : List EnumDecl) (roles : List RoleText) (text : List ℕ) (S : Sizes) where
  -- behind lines to which nothing more is needed the text doesn't come to its end
  pub end_lacks : (ls : List Line) (now : Left) (fault : ScheduleFault) → At f enums roles text ls now → Behind f enums roles S [] ls → LacksEnd S now fault → Fails f enums roles text fault
  end_lacks ls now fault h b e = by_kind (free_stand f enums roles text S ls e.lines now e.mid h b e.free e.takes) e.fails
    where
      lines : List Line
      lines = ls ++ e.lines

      by_kind : At f enums roles text lines e.mid × Behind f enums roles S [] lines → (IsUnwanted (MayFollow S) e.mid fault) ⊎ ((new : Left) × TakesLine e.mid line.End new × (new.rest ≡ [] → ⊥) × (fault ≡ Text (new.number + 1))) → Fails f enums roles text fault
      by_kind s (inl u) = unwanted_fails f enums roles text lines e.mid (MayFollow S) fault s.0 (behind_open f enums roles S [] lines s.1) (next_behind f enums roles S [] lines s.1) u
      by_kind s (inr t) =
          let whole = lines ++ line.End ∷ [] in
          let z = at_more f enums roles text lines line.End e.mid t.0 s.0 (behind_open f enums roles S [] lines s.1) (behind_next f enums roles S [] lines s.1 line.End tt) t.1 in
          let told : sizes_in whole ≡ S = same_sizes lines line.End refl ∙ (s.1).sizes in
          subst (Fails f enums roles text) (sym t.3) (record {
            before = whole;
            rest = (t.0).rest;
            parts = z.parts;
            stands = z.stands;
            fails = (
              ap (λ n. n + 1) z.number,
              λ heavy. (let a = subst (λ x. most_weight < weight roles (instance_with x)) told heavy.1 in let c = (s.1).light in omega (arith, a, c)),
              inl ((lines, refl), t.2),
            );
          })

module _ (enums : List EnumDecl) (roles : List RoleText) (old new : Left) (g : Given) (number : old.number ≡ 0) where
  -- the events don't come to their end
  pub events_lack : (fault : ScheduleFault) → old.format ≡ format.Schedule → TakesInstance enums roles old new g → LacksEnd g.sizes new fault → Fails format.Schedule enums roles old.rest fault
  events_lack fault same h e =
      let z = instance_stands format.Schedule enums roles old new g number same h in
      end_lacks format.Schedule enums roles old.rest g.sizes _ new fault z.0 z.1 e

  -- the number of turns isn't there
  pub turns_lack : (fault : ScheduleFault) → old.format ≡ format.Choices → TakesInstance enums roles old new g → IsUnwanted TellsTurns new fault → Fails format.Choices enums roles old.rest fault
  turns_lack fault same h u =
      let z = instance_stands format.Choices enums roles old new g number same h in
      unwanted_fails format.Choices enums roles old.rest _ new TellsTurns fault z.0 (behind_open format.Choices enums roles g.sizes _ _ z.1) (next_behind format.Choices enums roles g.sizes _ _ z.1) u

  -- the choices don't come to their end
  pub choices_lack : (n : ℕ) (later : Left) (fault : ScheduleFault) → old.format ≡ format.Choices → TakesInstance enums roles old new g → TakesLine new (line.Turns n) later → LacksEnd g.sizes later fault → Fails format.Choices enums roles old.rest fault
  choices_lack n later fault same h t e =
      let z = instance_stands format.Choices enums roles old new g number same h in
      let ls = line.Choices ∷ instance_lines g in
      end_lacks format.Choices enums roles old.rest g.sizes (ls ++ line.Turns n ∷ []) later fault
      (at_more format.Choices enums roles old.rest ls (line.Turns n) new later z.0 (behind_open format.Choices enums roles g.sizes _ ls z.1) (behind_next format.Choices enums roles g.sizes (Limit ∷ []) ls z.1 (line.Turns n) (n, refl)) t)
      (behind_more format.Choices enums roles g.sizes Limit [] ls (line.Turns n) z.1 (refl, λ q. cc)) e

  -- the instance fits, and isn't too heavy
  pub ready : AreApart roles → TakesInstance enums roles old new g → IsReady enums roles g
  ready apart h = (ordered_fits enums roles g apart h.ordered, h.light)

-- nothing is left behind lines that are the whole text
whole_text : (old : Left) (ls : List Line) (new : Left) → Takes old ls new → new.rest ≡ [] → old.rest ≡ text_of_lines ls
whole_text old ls new t none = takes_text old ls new t ∙ ap (λ z. text_of_lines ls ++ z) none ∙ append-nil (text_of_lines ls)

-- a schedule is taken to its end
pub schedule_whole : (enums : List EnumDecl) (roles : List RoleText) (old mid : Left) (s : Schedule) → AreApart roles → old.format ≡ format.Schedule → TakesInstance enums roles old mid s.instance → TakesToEnd (event_line s.instance.sizes) s.events mid → AllByRecursion (IsTold s.instance.sizes) s.events →
    IsScheduleFor enums roles s × (old.rest ≡ schedule_text s)
schedule_whole enums roles old mid s apart same h e told =
    let front = subst (λ k. Takes old (head_line k ∷ instance_lines s.instance) mid) same h.takes in
    let both = takes_both old (line.Schedule ∷ instance_lines s.instance) mid (map (event_line s.instance.sizes) s.events ++ line.End ∷ []) e.new front e.takes in
    let all = subst (λ ls. Takes old ls e.new) (sym (append_assoc (line.Schedule ∷ instance_lines s.instance) (map (event_line s.instance.sizes) s.events) (line.End ∷ []))) both in
    (record { legal = takes_legal old (schedule_lines s) e.new all; ready = (ordered_fits enums roles s.instance apart h.ordered, h.light); told = told }, whole_text old (schedule_lines s) e.new all e.nothing)

-- choices are taken to their end
pub choices_whole : (enums : List EnumDecl) (roles : List RoleText) (old mid later : Left) (c : Choices) → AreApart roles → old.format ≡ format.Choices → TakesInstance enums roles old mid c.instance → TakesLine mid (line.Turns c.turns) later → TakesToEnd line.Choose c.picks later →
    AreChoicesFor enums roles c × (old.rest ≡ choices_text c)
choices_whole enums roles old mid later c apart same h t e =
    let front = subst (λ k. Takes old (head_line k ∷ instance_lines c.instance) mid) same h.takes in
    let both = takes_both old (line.Choices ∷ instance_lines c.instance) mid (line.Turns c.turns ∷ (map line.Choose c.picks ++ line.End ∷ [])) e.new front (later, t, e.takes) in
    let all = subst (λ ls. Takes old ls e.new) (sym (append_assoc (line.Choices ∷ instance_lines c.instance) (line.Turns c.turns ∷ map line.Choose c.picks) (line.End ∷ []))) both in
    (record { legal = takes_legal old (choices_lines c) e.new all; ready = (ordered_fits enums roles c.instance apart h.ordered, h.light) }, whole_text old (choices_lines c) e.new all e.nothing)
