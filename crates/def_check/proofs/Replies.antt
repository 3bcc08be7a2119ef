-- All replies to a request say the same.
use Rattle.std.proofs.Common.{◌≡◌, ◌∙◌, refl, ap, subst, inl, inr, List, [], ◌∷◌, ◌++◌, map, arith}
use Rattle.std.specs.Cmp.{IsTotalOrder, then_total, on_total, nat_cmp_total}
use Rattle.std.specs.Cmp.Lexicographic.{on_texts}
use Rattle.std.specs.FinMap.{nat_cmp-IsAntisymmetric, slice_cmp-IsAntisymmetric}
use Rattle.std.specs.Fmt.{decimal}
use Rattle.std.specs.List.{AllByRecursion}
use Rattle.std.specs.Ordering.{ordering_then, ordering_reverse}
use Rattle.std.specs.Prelude.{codes}
use Rattle.std.specs.declared.cmp.Ordering.{Ordering}
use Rattle.std.specs.declared.cmp.Ordering.TheVariants.{Less, Equal, Greater}
use Rattle.sl_base.specs.Diag.{diagnostic_text, site_text}
use Rattle.sl_base.specs.declared.diag.Diag.{Diag}
use Rattle.sl_base.specs.declared.diag.Site.{Site}
use Rattle.sl_base.specs.declared.diag.Site.TheVariants.{Request as Whole, Source}
use Rattle.sl_base.specs.declared.place.Place.{Place}
use Rattle.sl_key.specs.Order.{key_cmp}
use Rattle.sl_key.specs.Ordered.{key_total}
use Rattle.sl_key.specs.declared.answer.Answer.{Answer}
use Rattle.sl_key.specs.declared.key.Key.{Key}
use Rattle.sl_key.specs.declared.request.Reply.{Reply}
use Rattle.sl_key.specs.declared.request.Reply.TheVariants.{Made, Failed}
use Rattle.def_query.specs.Keys.{IsIn}
use Rattle.def_query.proofs.Laws.{one_answer}
use Rattle.def_slang.specs.Diagnostic.{message}
use Rattle.def_sources.specs.Sources.{Sources}
use Rattle.def_check.specs.Body.{meaning_of}
use Rattle.def_check.specs.Laws.{OneReply, SayTheSame}
use Rattle.def_check.specs.Reply.{IsReplyOf, IsRising, IsSortedOnce, TellsAnswers, diag_cmp, place_cmp, rank_of, site_cmp, site_module, site_place, told_for}
use Rattle.def_check.proofs.Lawful.{bodies_lawful}

-- ---- the order of diagnostics

place_total : IsTotalOrder place_cmp
place_total = then_total (on_total (λ place. place.line) nat_cmp_total) (on_total (λ place. place.column) nat_cmp_total)

site_total : IsTotalOrder site_cmp
site_total =
    then_total (on_total rank_of nat_cmp_total)
    (then_total (on_texts site_module) (on_total site_place place_total))

diag_total : IsTotalOrder diag_cmp
diag_total =
    then_total (on_total (λ told. told.site) site_total)
    (then_total (on_total (λ told. told.code) nat_cmp_total) (on_texts (λ told. message told.code told.args)))

both_equal : (r s : Ordering) → ordering_then r s ≡ Equal → (r ≡ Equal) × (s ≡ Equal)
both_equal Equal s h = (refl, h)
both_equal Less s h = cc
both_equal Greater s h = cc

place_apart : (x y : Place) → place_cmp x y ≡ Equal → x ≡ y
place_apart x y h =
    let both = both_equal _ _ h in
    let line : x.line ≡ y.line = nat_cmp-IsAntisymmetric _ _ both.0 in
    let column : x.column ≡ y.column = nat_cmp-IsAntisymmetric _ _ both.1 in
    ap (λ n. let place : Place = record { line = n; column = x.column } in place) line
    ∙ ap (λ n. let place : Place = record { line = y.line; column = n } in place) column

site_by : (x y : Site) → rank_of x ≡ rank_of y → site_module x ≡ site_module y → site_place x ≡ site_place y → x ≡ y
site_by Whole Whole r m p = refl
site_by (Source name at) (Source other place) r m p = ap (λ n. Source n at) m ∙ ap (Source other) p
site_by _ _ r m p = absurd (omega arith)

site_apart : (x y : Site) → site_cmp x y ≡ Equal → x ≡ y
site_apart x y h =
    let rank = both_equal _ _ h in
    let others = both_equal _ _ rank.1 in
    site_by x y (nat_cmp-IsAntisymmetric _ _ rank.0) (slice_cmp-IsAntisymmetric nat_cmp-IsAntisymmetric _ _ others.0)
    (place_apart _ _ others.1)

-- diagnostics that compare equal have one line
same_line : (x y : Diag) → diag_cmp x y ≡ Equal → diagnostic_text x ≡ diagnostic_text y
same_line x y h =
    let first = both_equal _ _ h in
    let others = both_equal _ _ first.1 in
    let site : x.site ≡ y.site = site_apart _ _ first.0 in
    let code : x.code ≡ y.code = nat_cmp-IsAntisymmetric _ _ others.0 in
    let text : message x.code x.args ≡ message y.code y.args =
    slice_cmp-IsAntisymmetric nat_cmp-IsAntisymmetric _ _ others.1 in
    ap (λ s. site_text s ++ (codes ": error E" ++ (decimal x.code ++ (codes ": " ++ message x.code x.args)))) site
    ∙ ap (λ c. site_text y.site ++ (codes ": error E" ++ (decimal c ++ (codes ": " ++ message x.code x.args)))) code
    ∙ ap (λ t. site_text y.site ++ (codes ": error E" ++ (decimal y.code ++ (codes ": " ++ t)))) text

turned_equal : (x y : Diag) → diag_cmp x y ≡ Equal → diag_cmp y x ≡ Equal
turned_equal x y h = diag_total.antisymm y x ∙ ap ordering_reverse h

turned_less : (x y : Diag) → diag_cmp x y ≡ Less → diag_cmp y x ≡ Greater
turned_less x y h = diag_total.antisymm y x ∙ ap ordering_reverse h

-- a diagnostic is not less than one that compares equal to it
clash : (x y : Diag) → diag_cmp x y ≡ Less → diag_cmp x y ≡ Equal → ⊥
clash x y l e = cc

less_equal : (x y z : Diag) → diag_cmp x y ≡ Less → diag_cmp y z ≡ Equal → diag_cmp x z ≡ Less
less_equal x y z l e =
    let back = turned_equal y z e in
    diag_total.antisymm x z ∙ ap ordering_reverse (diag_total.congr z y x back ∙ turned_less x y l)

-- ---- rising lists with the same diagnostics

-- each of the first list compares equal to one of the second
abbrev IsMatched : List Diag → List Diag → Type 0
IsMatched xs ys = (x : Diag) → IsIn x xs → (y : Diag) × (diag_cmp x y ≡ Equal) × IsIn y ys

behind : (x y : Diag) (ys : List Diag) → AllByRecursion (λ z. diag_cmp x z ≡ Less) ys → IsIn y ys → diag_cmp x y ≡ Less
behind x y [] all i = elim i [ ]
behind x y (z ∷ ys) all (inl e) = ap (diag_cmp x) e ∙ all.0
behind x y (z ∷ ys) all (inr i) = behind x y ys all.1 i

-- what the first of a rising list compares equal to is the first of the other
first_by : (x y : Diag) (xs ys : List Diag) → IsRising (x ∷ xs) → IsRising (y ∷ ys)
    → (z : Diag) → diag_cmp x z ≡ Equal → IsIn z (y ∷ ys)
    → (w : Diag) → diag_cmp y w ≡ Equal → IsIn w (x ∷ xs) → diag_cmp x y ≡ Equal
first_by x y xs ys rx ry z xz (inl zy) w yw wi = subst (λ v. diag_cmp x v ≡ Equal) zy xz
first_by x y xs ys rx ry z xz (inr zi) w yw (inl wx) = turned_equal y x (subst (λ v. diag_cmp y v ≡ Equal) wx yw)
first_by x y xs ys rx ry z xz (inr zi) w yw (inr wi) =
    let yz = behind y z ys ry.0 zi in
    let yx = less_equal y z x yz (turned_equal x z xz) in
    let xw = behind x w xs rx.0 wi in
    let xy = less_equal x w y xw (turned_equal y w yw) in
    absurd (let back = turned_less x y xy in cc)

rest_by : (x y v : Diag) (xs ys : List Diag) → IsRising (x ∷ xs) → diag_cmp x y ≡ Equal → IsIn v xs
    → (w : Diag) → diag_cmp v w ≡ Equal → IsIn w (y ∷ ys) → IsIn w ys
rest_by x y v xs ys rx xy vi w vw (inr wi) = wi
rest_by x y v xs ys rx xy vi w vw (inl wy) =
    let xv = behind x v xs rx.0 vi in
    let vy = subst (λ u. diag_cmp v u ≡ Equal) wy vw in
    absurd (clash x y (less_equal x v y xv vy) xy)

matched_rest : (x y : Diag) (xs ys : List Diag) → IsRising (x ∷ xs) → diag_cmp x y ≡ Equal
    → IsMatched (x ∷ xs) (y ∷ ys) → IsMatched xs ys
matched_rest x y xs ys rx xy m v vi =
    let w = m v (inr vi) in
    (w.0, w.1, rest_by x y v xs ys rx xy vi w.0 w.1 w.2)

same_lines : (xs ys : List Diag) → IsRising xs → IsRising ys → IsMatched xs ys → IsMatched ys xs
    → map diagnostic_text xs ≡ map diagnostic_text ys
same_lines [] [] rx ry m n = refl
same_lines [] (y ∷ ys) rx ry m n = absurd (n y (inl refl)).2
same_lines (x ∷ xs) [] rx ry m n = absurd (m x (inl refl)).2
same_lines (x ∷ xs) (y ∷ ys) rx ry m n =
    let z = m x (inl refl) in
    let w = n y (inl refl) in
    let xy = first_by x y xs ys rx ry z.0 z.1 z.2 w.0 w.1 w.2 in
    let rest = same_lines xs ys rx.1 ry.1 (matched_rest x y xs ys rx xy m)
    (matched_rest y x ys xs ry (turned_equal x y xy) n) in
    ap (λ line. line ∷ map diagnostic_text xs) (same_line x y xy) ∙ ap (λ lines. diagnostic_text y ∷ lines) rest

matched : (all xs ys : List Diag) → IsSortedOnce all xs → IsSortedOnce all ys → IsMatched xs ys
matched all xs ys h k x i = k.each x (h.only x i)

same_replies : (all : List Diag) (one other : Reply) → IsReplyOf all one → IsReplyOf all other → SayTheSame one other
same_replies all Made Made h k = tt
same_replies all Made (Failed ys) h k = k.0 h
same_replies all (Failed xs) Made h k = h.0 k
same_replies all (Failed xs) (Failed ys) h k =
    same_lines xs ys h.1.rising k.1.rising (matched all xs ys h.1 k.1) (matched all ys xs k.1 h.1)

-- two functions that tell the answer of each key are the same
pub same_answers : (sources : Sources) (f g : Key → Answer) → TellsAnswers sources f → TellsAnswers sources g → f ≡ g
same_answers sources f g h k =
    λ i key. one_answer key_cmp key_total (meaning_of sources) (bodies_lawful sources) key
    (f key) (g key) (h key) (k key) i

pub one_reply : OneReply
one_reply sources request one other h k =
    let same = same_answers sources h.answer k.answer h.answers k.answers in
    same_replies (told_for sources k.answer request) one other
    (subst (λ f. IsReplyOf (told_for sources f request) one) same h.replied) k.replied
