-- The operators of expressions.

pub data Unary : Type 0 where
  neg not : Unary

pub data Binary : Type 0 where
  add sub mul quot rem and or lt le gt ge eq ne : Binary
