-- Read Words: the words of a page. Then Structure: what is left of pages whose pairs move as a whole. Then Redo: what each record makes of
-- its pages, in these words. Inside has the words of private functions.
pub mod Words
pub mod Structure
pub mod Redo
pub mod Inside
