-- Where the reader of modules stops, a module of other tokens with the same front is told no later.
use Rattle.std.proofs.Common.{◌≡◌, ◌⊎◌, inl, inr, ℕ, zero, suc, ◌+◌, ◌<◌, ◌≤◌, Bool, true, false, List, [], ◌∷◌, ◌++◌, length, refl, sym, ap, subst, ◌∙◌, arith, le_refl, append_assoc, append-nil, length-append}
use Rattle.std.specs.Prelude.{Option, Some, None}
use Rattle.std.specs.List.{flat_map}
use Rattle.def_token.specs.Lexical.{Token}
use Rattle.def_tree.specs.Fault.{IsUpTo, spot_of}
use Rattle.def_tree.specs.Limits.{Entry, plain, all_open}
use Rattle.def_tree.specs.Symbol.{symbol}
use Rattle.def_module.specs.DeclTree.{ModuleTree}
use Rattle.def_module.specs.Entries.{maybe_entries, header_entries, decl_entries, module_entries}
use Rattle.def_module.specs.Module.{IsModule, of_module, IsEnd}
use Rattle.law_module.proofs.Covered.{modules_covered}
use Rattle.def_reading.specs.Cursor.{Told, Cursor, At, passed, before, told_by, FarthestFailure, reach_at, further}
use Rattle.def_reading.specs.Try.{Try, Reads, Stops, refused, choice_by, up_to}
use Rattle.def_reading.specs.TypeReading.{Ended}
use Rattle.law_types.proofs.AheadComplete.{passed-append}
use Rattle.law_types.proofs.AheadKept.{ended_front}
use Rattle.law_stmts.proofs.Alien.{agree_back, agree_front}
use Rattle.law_exprs.proofs.ExprBeside.{front_share}
use Rattle.law_types.proofs.LimitSpots.{spot_told, same_place, passed_at}
use Rattle.law_machine.proofs.MachineGrows.{less_far, as_far, Above, above, above_second}
use Rattle.law_stmts.proofs.PartTold.{ends_with}
use Rattle.law_stmts.proofs.StmtOthers.{spot_walk, way_of, ended_tail}
use Rattle.law_exprs.proofs.TryFollows.{Share, here, one, Followed, same, ends_here, told, past, way_same, Follows}
use Rattle.law_exprs.proofs.TryFronts.{WayTo, way_is}
use Rattle.law_exprs.proofs.TryHolds.{Holds, stop_way}
use Rattle.def_decl_reading.specs.DeclReading.{module_form, module_in}
use Rattle.def_decl_reading.specs.Form.{ends, reads}
use Rattle.law_decls.proofs.DeclComes.{module_arrives}
use Rattle.law_decls.proofs.DeclPredicts.{an_end, module_predicts}
use Rattle.law_decls.proofs.FormBeside.{always_form}
use Rattle.law_decls.proofs.ModuleRead.{module_comes, Stayed, module_stays}

-- how far a module that continues so many tokens is told, beside where the reader stops
abbrev pub IsToldBy : ℕ → ModuleTree → FarthestFailure → Type 0
IsToldBy many other b = (many < b.many) ⊎ ((b.many ≡ many) × IsUpTo (spot_of many (module_entries other)) (spot_told b.told))

-- a reader that stops reads nothing
stops_reads : (tree : ModuleTree) (place : Cursor) (r s : Option FarthestFailure) → Stops r ≡ Reads tree place s → ⊥
stops_reads tree place r s h = cc

-- readers that stop do so at one reach
stops_same : (r s : Option FarthestFailure) → ◌≡◌ {A = Try ModuleTree} (Stops r) (Stops s) → r ≡ s
stops_same r s h = cc

-- tokens before the rest of a place
passed_piece : (es : List Entry) (at : ℕ) (limit : Option Told) (ts : List Token) {at' : ℕ} {limit' : Option Told} {rest : List Token} → passed es (At at limit ts) ≡ At at' limit' rest → (piece : List Token) × (ts ≡ piece ++ rest)
passed_piece [] at limit ts is = ([], (same_place is).2)
passed_piece (e ∷ es) at limit [] is = passed_piece es at limit [] is
passed_piece (e ∷ es) at limit (t ∷ ts) is = let more = passed_piece es _ _ ts is in (t ∷ more.0, ap (λ ts. t ∷ ts) more.1)

-- a module with more behind it
module_before : (ts pad rest : List Token) (tree : ModuleTree) → IsModule ts tree rest → Stayed (ts ++ pad) tree
module_before ts pad rest tree (of_module {end = end} {name = name} {decls = decls} h m e) =
    let g = (module_arrives end h m e).comes.comes 0 None None in
    let piece = passed_piece (maybe_entries header_entries name ++ flat_map (decl_entries (all_open 0)) decls) 0 None ts (g.passes tt) in
    let are : ts ++ pad ≡ piece.0 ++ end ∷ (rest ++ pad) = ap (λ ts. ts ++ pad) piece.1 ∙ append_assoc piece.0 (end ∷ rest) pad in
    subst (λ us. Stayed us tree) (sym are)
    (module_stays end e rest (rest ++ pad) (piece.0 ++ end ∷ rest) (piece.0 ++ end ∷ (rest ++ pad)) rest tree
    (subst (λ ts. IsModule ts tree rest) piece.1 (of_module {name = name} {decls = decls} h m e)) (agree_front end rest (rest ++ pad) piece.0))

-- a way that counts no more than a refusal counts no more than where the reader stops before a token that is not the end
mark_above : (c : Bool) (tree : ModuleTree) (at : ℕ) (limit : Option Told) (t : Token) (ts : List Token) (reach b : Option FarthestFailure) (w : FarthestFailure)
    → choice_by c plain (λ mark reach place. Reads tree place reach) refused reach t (At at limit (t ∷ ts)) ≡ Stops b → Above w (further reach (reach_at None 0 (At at (before at limit) (t ∷ ts)))) → Above w b
mark_above true tree at limit t ts reach b w is a = absurd (stops_reads tree _ b reach (sym is))
mark_above false tree at limit t ts reach b w is a = subst (Above w) (stops_same _ b is) a

-- what counts before the end counts no more than where the reader stops
pub holds_stopped : (look : Try ModuleTree) (b : Option FarthestFailure) (w : FarthestFailure) → up_to ends look ≡ Stops b → Holds w look → Above w b
holds_stopped (Stops reach) b w is h = subst (Above w) (stops_same reach b is) h
holds_stopped (Reads tree (At at limit []) reach) b w is h = absurd h.0
holds_stopped (Reads tree (At at limit (t ∷ ts)) reach) b w is h = mark_above (ends (symbol t)) tree at limit t ts reach b w is (stop_way w None 0 at (before at limit) (t ∷ ts) reach h.0 h.1)

-- and so does a way to the place of a module that is read
pub here_stopped : (tree : ModuleTree) (at : ℕ) (limit : Option Told) (t : Token) (ts : List Token) (reach b : Option FarthestFailure) → up_to ends (Reads tree (At at limit (t ∷ ts)) reach) ≡ Stops b → (w : FarthestFailure) → WayTo at limit (t ∷ ts) w → Above w b
here_stopped tree at limit t ts reach b is w way =
    mark_above (ends (symbol t)) tree at limit t ts reach b w is (subst (λ o. Above w (further reach o)) (sym (way_is at limit (t ∷ ts) w way)) (above_second reach w))

-- the reader does not stop before the end
end_reads : (tree : ModuleTree) (at : ℕ) (limit : Option Told) (t : Token) (ts : List Token) (reach : Option FarthestFailure) (b : FarthestFailure) → IsEnd t → up_to ends (Reads tree (At at limit (t ∷ ts)) reach) ≡ Stops (Some b) → ⊥
end_reads tree at limit t ts reach b e is = by_mark (ends (symbol t)) (rw e refl) is
  where
    by_mark : (c : Bool) → c ≡ true → choice_by c plain (λ mark reach place. Reads tree place reach) refused reach t (At at limit (t ∷ ts)) ≡ Stops (Some b) → ⊥
    by_mark true c is = stops_reads tree _ (Some b) reach (sym is)
    by_mark false c is = cc

-- a way to the place, beside where the reader stops
above_told : (many : ℕ) (other : ModuleTree) (b w : FarthestFailure) → w.many ≡ many → spot_of many (module_entries other) ≡ spot_told w.told → Above w (Some b) → IsToldBy many other b
above_told many other b w is spot (above x (less_far h)) = inl (omega (arith, h, is))
above_told many other b w is spot (above x (as_far h u)) = inr (sym h ∙ is, subst (λ s. IsUpTo s (spot_told b.told)) (sym spot) u)

module _ (b : FarthestFailure) (front : List Token) (t : Token) (ts more : List Token) (end : Ended (t ∷ ts)) (end' : Ended more) (other : ModuleTree) where
  abbrev place : ℕ
  place = length front

  -- no way to the place, or none as far, counts more than where the reader stops
  abbrev Bounds : ℕ → Option Told → Type 0
  Bounds at limit = ((place ≤ at) × ((w : FarthestFailure) → WayTo place limit (t ∷ ts) w → Above w (Some b))) ⊎ ((w : FarthestFailure) → w.many ≡ place → Above w (Some b))

  -- where both read one module
  same_bounds : (n at : ℕ) (limit : Option Told) (mark : Token) (left rest rest' : List Token) (reach : Option FarthestFailure) → IsEnd mark → rest' ≡ mark ∷ left → place ≡ at + n → Share (t ∷ ts) more place end n rest rest'
      → up_to ends (Reads other (At at limit rest) reach) ≡ Stops (Some b) → Bounds at limit
  same_bounds zero at limit mark left rest rest' reach e are is here stops =
      let at_is : at ≡ place = omega (arith, is) in
      inl (omega (arith, is), here_stopped other place limit t ts reach (Some b) (subst (λ at. up_to ends (Reads other (At at limit (t ∷ ts)) reach) ≡ Stops (Some b)) at_is stops))
  same_bounds (suc n) at limit mark left rest rest' reach e are is (one {t = u} {ts = us} s) stops =
      let first : u ≡ mark = cc in absurd (end_reads other at limit u us reach b (subst IsEnd (sym first) e) stops)

  -- by what follows here
  bounds : (look : Try ModuleTree) (at : ℕ) (limit : Option Told) (mark : Token) (left : List Token) → IsEnd mark → up_to ends look ≡ Stops (Some b) → Followed (t ∷ ts) more place end look other at limit (mark ∷ left) → Bounds at limit
  bounds look at limit mark left e stops (same n rest reach is s look_is) =
      same_bounds n at limit mark left rest (mark ∷ left) reach e refl is s (subst (λ look. up_to ends look ≡ Stops (Some b)) look_is stops)
  bounds look at limit mark left e stops (ends_here tree limit' reach up n limits look_is) =
      inl (up, λ w way. here_stopped tree place limit' t ts reach (Some b) (subst (λ look. up_to ends look ≡ Stops (Some b)) look_is stops) w (way_same (t ∷ ts) more place end limit limit' w limits way))
  bounds look at limit mark left e stops (told up f) = inl (up, λ w way. holds_stopped look (Some b) w stops (f w way))
  bounds look at limit mark left e stops (past f) = inr (λ w many. holds_stopped look (Some b) w stops (f w many))

  -- what is told of the other module, by the ways to the place
  told_bounds : (at : ℕ) (limit : Option Told) (rest : List Token) → IsModule (front ++ more) other rest → passed (module_entries other) (At 0 None (front ++ more)) ≡ At (suc at) limit rest → Bounds at limit → IsToldBy place other b
  told_bounds at limit rest part passes (inl h) =
      let way = way_of (before place limit) place t ts in
      let w : FarthestFailure = record { many = place; told = way.0 } in
      let covered = modules_covered (front ++ more) rest other part in
      let at_is = passed_at (module_entries other) 0 None (front ++ more) (omega (arith, covered)) passes in
      above_told place other b w refl
      (spot_walk (module_entries other) 0 place (front ++ more) t ts (omega (arith, length-append front more)) (omega (arith, h.0, at_is)) passes way.0 (subst (λ n. told_by (before n limit) n (t ∷ ts) ≡ Some way.0) (omega arith) way.1))
      (h.1 w (record { many = refl; told = way.1 }))
  told_bounds at limit rest part passes (inr f) =
      let spot = spot_of place (module_entries other) in
      let w : FarthestFailure = record { many = place; told = record { at = spot.at; token = t; code = spot.code } } in
      above_told place other b w refl refl (f w refl)

  -- modules that go over a front
  told_inside : (rest : List Token) → IsModule (front ++ more) other rest → module_in None (At 0 None (front ++ t ∷ ts)) ≡ Stops (Some b) → IsToldBy place other b
  told_inside rest (of_module {end = mark} {name = name} {decls = decls} h m e) is =
      let g = (module_arrives mark h m e).comes.comes 0 None None in
      let look = reads module_form None (At 0 None (front ++ t ∷ ts)) in
      let l = (always_form (t ∷ ts) more place end end' module_form an_end false module_predicts place).local in
      let f : Follows (t ∷ ts) more place end look (reads module_form None (At 0 None (front ++ more))) =
      l place 0 None (front ++ t ∷ ts) (front ++ more) None None (le_refl place) (omega arith) (front_share (t ∷ ts) more place end front) tt in
      let f' : Follows (t ∷ ts) more place end look (Reads other (At g.at g.limit (mark ∷ rest)) g.reach) = subst (Follows (t ∷ ts) more place end look) g.is f in
      let es = maybe_entries header_entries name ++ flat_map (decl_entries (all_open 0)) decls in
      let passes : passed (module_entries other) (At 0 None (front ++ more)) ≡ At (suc g.at) g.limit rest =
      ap (λ es. passed es (At 0 None (front ++ more))) (sym (append_assoc (maybe_entries header_entries name) (flat_map (decl_entries (all_open 0)) decls) (plain ∷ [])))
      ∙ passed-append es (plain ∷ []) (At 0 None (front ++ more)) ∙ ap (passed (plain ∷ [])) (g.passes tt) in
      told_bounds g.at g.limit rest (of_module {name = name} {decls = decls} h m e) passes (bounds look g.at g.limit mark rest e is f'.1)

-- a module that continues all tokens with their end is one of these tokens
none_over : (tokens more rest : List Token) (other : ModuleTree) (b : FarthestFailure) → Ended tokens → module_in None (At 0 None tokens) ≡ Stops (Some b) → IsModule (tokens ++ more) other rest → ⊥
none_over tokens more rest other b end is part =
    let e = ends_with tokens end in
    let stays = module_stays e.mark e.is_end more [] (tokens ++ more) tokens rest other part (agree_back (e.agree more)) in
    let g = (module_comes stays.part).comes 0 None None in
    stops_reads other (At g.at g.limit stays.rest) (Some b) g.reach (sym is ∙ g.is)

-- Each module that continues a front of the tokens is told no later than where the reader stops.
pub others_told : (tokens : List Token) (b : FarthestFailure) → Ended tokens → module_in None (At 0 None tokens) ≡ Stops (Some b)
    → (front tail more rest : List Token) (other : ModuleTree) → tokens ≡ front ++ tail → IsModule (front ++ more) other rest → IsToldBy (length front) other b
others_told tokens b end is front [] more rest other are part =
    let all : front ≡ tokens = sym (are ∙ append-nil front) in
    absurd (none_over tokens more rest other b end is (subst (λ ts. IsModule (ts ++ more) other rest) all part))
others_told tokens b end is front (t ∷ ts) more rest other are part =
    let e = ends_with tokens end in
    let pad = e.mark ∷ [] in
    let padded = module_before (front ++ more) pad rest other part in
    told_inside b front t ts (more ++ pad) (ended_tail front t ts (subst Ended are end)) (ended_front more pad e.is_end) other padded.rest
    (subst (λ ts. IsModule ts other padded.rest) (append_assoc front more pad) padded.part) (subst (λ tokens. module_in None (At 0 None tokens) ≡ Stops (Some b)) are is)
