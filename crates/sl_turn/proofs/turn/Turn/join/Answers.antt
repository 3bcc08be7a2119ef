use Rattle.std.proofs.Common.{rules, ◌≡◌, ◌≤◌, ◌++◌, ap, sym, ◌∙◌, subst, ⊎_elim}
use Rattle.def_turn.specs.Pass.{Holds}
use Rattle.sl_turn.proofs.Books.{holds_left, holds_right}
use Rattle.sl_turn.proofs.Joining.{joins}
use Rattle.sl_turn.proofs.Drawing.{looks}
use Rattle.sl_turn.proofs.turn.Turn.join.Goals as goal

pub join_seat-requires : goal.join_seat-requires
join_seat-requires g c = let idle = c.pass.invariant.2 in let idle' = c.other.invariant.2 in (
  search rules,
  search rules,
  search rules,
  search rules,
  joins _ _ _ _ _ _ _ _ _ idle.numbered idle.no_ticket idle.not_in_turn idle'.numbered idle'.no_ticket idle'.not_in_turn,
)

pub load-requires : goal.load-requires
load-requires g c =
    let idle = c.pass.invariant.2 in
    let number : 1 ≤ c.join_seat.new.seat.me.0.number = rw c.join_seat.ensures.2 idle.numbered in
    (search rules, search rules, looks _ _ _ _ _ _ _ _ number)

pub returns-clause-holds : goal.returns-clause-holds
returns-clause-holds g c n held =
    let mine = c.pass.inside.seat.me.0.books in
    let others = c.other.inside.seat.me.0.books in
    let books : c.load.new.seat.me.0.books ≡ mine ++ others = ap (λ me. me.0.books) (c.load.ensures.2.0 ∙ c.join_seat.ensures.2) in
    let pass : c.args.pass.now.books ≡ mine = ap (λ p. p.books) (sym c.pass.view_is) in
    let other : c.args.other.books ≡ others = ap (λ p. p.books) (sym c.other.view_is) in
    subst (λ bs. Holds bs n) (sym books) (⊎_elim
    (λ (h : Holds c.args.pass.now.books n). holds_left mine others n (subst (λ bs. Holds bs n) pass h))
    (λ (h : Holds c.args.other.books n). holds_right mine others n (subst (λ bs. Holds bs n) other h))
    held)
