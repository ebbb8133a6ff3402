-- What a statement's form says of its condition and its outputs.
use Rattle.std.proofs.Common.{List}
use Rattle.su_lex.specs.declared.meaning.Symbol.{Symbol}
use Rattle.su_query.specs.declared.statements.Statement.{Statement}
use Rattle.su_query.specs.declared.statements.Statement.TheVariants.{Insert, Delete, DeleteWhere, Load, Print, Schema, Closure, Retrieve, Explain, Certify, Support, Compare, Window}
use Rattle.su_query.specs.Forms.{IsForm}
use Rattle.su_query.specs.StatementTexts.{IsReady}

pub form_ready : (st : Statement) (s : List Symbol) → IsForm st s → IsReady st
form_ready (Insert relation row) s form = tt
form_ready (Delete relation row) s form = tt
form_ready (DeleteWhere relation c) s form = form.1
form_ready (Load relation file) s form = tt
form_ready (Print relation) s form = tt
form_ready Schema s form = tt
form_ready (Closure names) s form = tt
form_ready (Retrieve q) s form = form.some
form_ready (Explain q) s (t, form, w) = form.some
form_ready (Certify q) s (t, form, w) = form.some
form_ready (Support q) s (t, form, w) = form.some
form_ready (Compare first second) s (t, u, one, other, w) = (one.some, other.some)
form_ready (Window names) s (are, w) = are.some
