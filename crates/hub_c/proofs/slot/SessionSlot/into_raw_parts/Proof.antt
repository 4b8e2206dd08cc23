-- `into_raw_parts` moves what the slot owns into the parts.
use Rattle.std.proofs.Common.{◌≡◌, List, [], ◌∷◌, ◌++◌, refl, sym, subst}
use mir.Val.{Val}
use seplogic.Ra.Ura.{Ura}
use prog.Model.{Model}
use base.Logic.{SProp, ent, emp, id⊢}
use prog.Wp.{WpFn}
use types.Logic.{Logic}
use contract.Monad.{fact, fact_i}
use contract.Running.{Running, tables}
use types.Kit.{‵, raw, ◌⊛◌, ◌$◌, ◌∵◌, !, qed, by, move, keep, use0, use1, split, rewrite, fsplit, fjoin, suffices}
use types.Part.{whole, sub, agg}
use types.Run.{stop, fld, of_opd, no_more, and_then, returns, enter}
use types.ByLocal.{alloc_all, pass_all, free_all, look_at, get, get_in, sets}
use denote.Exit.{yes}
use denote.RattleType.{owns}
use denote.Signature.{types_at, plain}
use denote.Steps.{heard, nothing}
use denote.Triple.Entry.{alive}
use denote.Triple.Statement.{Contract}
use denote.Triple.Walked.{Stays, stay_dropped, walk_of}
use Rattle.std.proofs.alloc.Calls.{Goes-blank}
use Rattle.std.proofs.raw_atomic.Walks.{proved_at, leaves}
use Rattle.std.proofs.BoxSteps.Form.{Bx, D, word, box_typed}
use Rattle.std.proofs.BoxSteps.Steps.{box_out, box_in}
use Rattle.std.specs.Prelude.{Some, None, IsSome}
use Rattle.std.specs.contracts.alloc.Global as heap
use Rattle.std.proofs.alloc.Global.TheLaws as heap_laws
use Rattle.std.specs.contracts.impls.GlobalAllocator.TheImpl.{ghosts, dict}
use Rattle.hub_c.specs.Held.{HeldSession}
use Rattle.hub_steps.specs.declared.session.Session.{Session}
use Rattle.hub_steps.specs.contracts.session.Session as inner
use Rattle.hub_steps.proofs.session.Session.TheLaws as inner_laws
use Rattle.hub_c.specs.contracts.slot.RawParts as parts
use Rattle.hub_c.specs.contracts.slot.SessionSlot as slot
use Rattle.hub_c.specs.contracts.slot.SessionSlot.into_raw_parts.{ended, clauses}
use Rattle.hub_c.specs.contracts.slot.SessionSlot.into_raw_parts.Key.{name as #self}
use Rattle.hub_c.proofs.slot.SessionSlot.into_raw_parts.Statement.{statement}
use Rattle.hub_c.proofs.slot.SessionSlot.into_raw_parts.Code as code

abbrev E : Bx
E = record { row = inner.the_row; laws = inner_laws.the_row_laws; al = record { row = heap.the_row; laws = heap_laws.the_row_laws; g = ghosts; d = dict; drops = dict } }

abbrev stayed : Stays ended.signature.params ended.kept
stayed = (stay_dropped (plain (λ _. slot.the_row)) yes, tt)

none_is : IsSome {T = Session} None → ⊥
none_is e = cc

module _ {M : Type 1} (𝓤 : Ura M) (𝓛 : Logic 𝓤) (𝓜 : Model 𝓤 𝓛.H) (𝓡 : Running 𝓤 𝓛.H 𝓜) where
  open 𝓛 use {H}

  abbrev W : Contract 𝓤
  W = walk_of 𝓛 ended stayed (clauses 𝓛 𝓜.mem 𝓡.returns)

  abbrev Runs : W.Ghost → List Val → SProp 𝓤
  Runs z ws = WpFn 𝓤 H (tables 𝓤 H 𝓜 𝓡 𝓡.env).C (tables 𝓤 H 𝓜 𝓡 𝓡.env).Λ code.function ws (W.post z)

  walk : (z : W.Ghost) (h : HeldSession) → h ≡ z.0.3.0.held → ent 𝓤 (W.pre z) (Runs z (W.args z))
  walk z None e =
      qed 𝓛 ((raw (alive 𝓛 ended.signature z.0.0 z.0.1) ⊛ ‵ (owns (types_at ended.signature.params z.0.0) z.0.3 z.0.4)) ∷ raw (fact 𝓤 (IsSome z.0.3.0.held)) ∷ []) ∵ move ! (1 ∷ []) $
      heard ! (IsSome z.0.3.0.held) (λ some. absurd (none_is (subst IsSome (sym e) some)))
  walk z (Some x) e =
      let c = clauses 𝓛 𝓜.mem 𝓡.returns in let 𝓣 = tables 𝓤 H 𝓜 𝓡 𝓡.env in let fn = code.function in let v = z.0.3.0 in let d : D E = record { ptr = v.at; alloc = v.alloc; value = x } in
      qed 𝓛 ((raw (alive 𝓛 ended.signature z.0.0 z.0.1) ⊛ ‵ (owns (types_at ended.signature.params z.0.0) z.0.3 z.0.4)) ∷ raw (fact 𝓤 (IsSome z.0.3.0.held)) ∷ []) ∵ split ! $ move ! (1 ∷ []) $ fsplit ! $
      rewrite ! 0 (λ (h : HeldSession). ‵ (slot.the_row.own_val (record { at = v.at; alloc = v.alloc; held = h }) z.0.4.0)) (sym e) refl $
      box_out E ! d z.0.4.0 (λ b o hv at ws fa. box_in E ! d b o x at refl $ let w : Val = word E hv b o in let typed = box_typed E hv b o fa in
      suffices ! (Runs z (w ∷ [])) (subst (λ (us : List Val). ent 𝓤 (Runs z (w ∷ [])) (Runs z us)) (sym (λ i. ws i ++ [])) (id⊢ 𝓤 (Runs z (w ∷ [])))) $
      enter ! 𝓣.C 𝓣.Λ fn (w ∷ []) (W.post z) $ alloc_all ! (λ l. pass_all ! refl (typed, tt) $
      sets ! (of_opd ! (get_in ! (fld ! refl (stop !)) (sub ! 0 refl (whole !)))) refl (tt, tt) $ sets ! (of_opd ! (get_in ! (fld ! refl (stop !)) (sub ! 1 refl (whole !)))) refl fa $
      sets ! (agg ! (and_then ! (get ! refl) (and_then ! (get ! refl) (no_more !)))) refl typed $ returns ! (look_at ! 0 refl) $ free_all ! refl $
      -- [what the box owns; nothing; the tokens; the requires]
      let made : (parts.the_row inner.the_row heap.the_row ghosts).Denot = record { ptr = v.at; alloc = v.alloc; value = x } in
      use1 𝓛 (‵ ((parts.the_row inner.the_row heap.the_row ghosts).own_val made (w ∷ []))) (id⊢ 𝓤 _) $
      use0 𝓛 (raw (fact 𝓤 (Some x ≡ v.held))) (fact_i 𝓤 (Some x ≡ v.held) (emp 𝓤) e) $
      nothing ! $ nothing ! $ fjoin ! $ keep ! (4 ∷ 0 ∷ 2 ∷ 1 ∷ []) $ by ! (leaves 𝓛 ended stayed c z w made (tt, tt) (tt, tt))))

pub into_raw_parts_spec : {M : Type 1} → statement M
into_raw_parts_spec 𝓤 𝓛 𝓜 𝓡 wired =
    proved_at 𝓛 ended stayed (clauses 𝓛 𝓜.mem 𝓡.returns) 𝓜 𝓡 (Goes-blank 𝓛 0 (plain (λ _. slot.the_row)) yes (λ κs x f. tt), tt) #self code.function (code.unfolded 𝓤 𝓛.H 𝓜 𝓡 wired)
    (λ z are. walk 𝓤 𝓛 𝓜 𝓡 z z.0.3.0.held refl)
