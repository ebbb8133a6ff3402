-- A refusal is the first query's, or the second's where the first one is known.
use Rattle.std.proofs.Common.{inl, inr}
use Rattle.su_show.proofs.RefusalLines.{query_told}
use Rattle.su_session.proofs.comparing.resolve_both.Goals as goal

pub returns-in-Err-clause-refused : goal.returns-in-Err-clause-refused
returns-in-Err-clause-refused c = λ line told. elim c.in-Err.ensures.refused [ inl memory ↦ absurd (query_told c.args.schema.now line c.in-Err.fault told memory) | inr refused ↦ inl refused ]

pub returns-in-Err-resolve-clause-refused : goal.returns-in-Err-resolve-clause-refused
returns-in-Err-resolve-clause-refused c = λ line told. elim c.in-Err-resolve.ensures.refused [ inl memory ↦ absurd (query_told c.args.schema.now line c.in-Err-resolve.fault told memory) | inr refused ↦ inr (c.in-Ok.ensures.known, refused) ]
